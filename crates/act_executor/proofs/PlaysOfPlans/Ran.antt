-- Where each caller collects in line, a call whose kept answer is a death never ran.
use Rattle.act_executor.proofs.Common.{◌≡◌, ◌≢◌, ℕ, zero, suc, ◌+◌, ◌==◌, Bool, true, false, cond, List, [], ◌∷◌, ◌++◌, length, Option, Some, None, inl, inr}
use Rattle.act_executor.proofs.Common.{refl, ap, sym, ◌∙◌, subst, arith, ◌&&◌, map, filter, filter_map, slice_get, take, is_some, option_and_then, option_map}
use Rattle.act_executor.proofs.Common.{Err, AllByRecursion, cons_option, enumerate_from, eqb-true, eq-eqb, and_parts, slice_get-map, KindState, ActorDied, Post}
use Rattle.act_executor.proofs.Common.{RunItem, Submission, Answer, answer_at, items_of, IsPrefix, kept_at, calls_to, History, opening_of, calls_of, kept_of}
use Rattle.act_executor.proofs.Common.{runs_of, is_item_of, answer_of, answer_in, first_answer, slice_get-filter, slice_get-enumerate_from, slice_get_front}
use Rattle.act_executor.proofs.Common.{calls_to-at, kept_at_is, kept_by, IsSound, consistent, places_of, CallsThatDiedNeverRan, is_between, CollectsInLine}
use Rattle.act_executor.proofs.Common.{cond_gives, reply_alive, ReplyPost, DeathPost, IsIn, in_none, in_first}
use Rattle.act_rules.proofs.Order.{numbered}
use Rattle.act_rules.proofs.Elements.{in_map}

-- ---- the first that answers

module _ (f : Post → Option Answer) (q : Post → Bool) (dead : Post) (died : (x : Post) → f x ≡ Some (Err ActorDied) → x ≡ dead) (mine : q dead ≡ true) where
  never_first : (xs replies : List Post) (r : Post) → IsIn replies r → is_some (f r) ≡ true → AllByRecursion (λ x. x ≢ dead) replies →
      IsPrefix (filter q xs) (replies ++ dead ∷ []) → slice_get (filter_map f xs) 0 ≢ Some (Err ActorDied)
  never_first [] replies r i gives alive front e = cc
  never_first (x ∷ xs) replies r i gives alive front e = go (f x) refl (q x) refl replies i alive front e (never_first xs)
    where
      go : (o : Option Answer) → f x ≡ o → (b : Bool) → q x ≡ b → (replies : List Post) → IsIn replies r → AllByRecursion (λ x. x ≢ dead) replies →
          IsPrefix (cond b (x ∷ filter q xs) (filter q xs)) (replies ++ dead ∷ []) → slice_get (cons_option o (filter_map f xs)) 0 ≡ Some (Err ActorDied) →
          ((replies : List Post) (r : Post) → IsIn replies r → is_some (f r) ≡ true → AllByRecursion (λ x. x ≢ dead) replies →
          IsPrefix (filter q xs) (replies ++ dead ∷ []) → slice_get (filter_map f xs) 0 ≢ Some (Err ActorDied)) → ⊥
      go o is b passes [] i alive front e rest = in_none i
      go (Some answer) is b passes (one ∷ replies) i alive front e rest =
          let this : x ≡ dead = died x (is ∙ e) in let here : b ≡ true = sym passes ∙ ap q this ∙ mine in
          let front : IsPrefix (x ∷ filter q xs) (one ∷ (replies ++ dead ∷ [])) =
          subst (λ c. IsPrefix (cond c (x ∷ filter q xs) (filter q xs)) (one ∷ (replies ++ dead ∷ []))) here front in
          let whole : x ∷ (filter q xs ++ front.0) ≡ one ∷ (replies ++ dead ∷ []) = front.1 in
          let same : x ≡ one = cc in alive.0 (sym same ∙ this)
      go None is true passes (one ∷ replies) i alive front e rest =
          let whole : x ∷ (filter q xs ++ front.0) ≡ one ∷ (replies ++ dead ∷ []) = front.1 in
          let same : x ≡ one = cc in let tail : filter q xs ++ front.0 ≡ replies ++ dead ∷ [] = cc in
          elim (in_first one replies i.place i.at) [
            | inl this ↦ (let none : f r ≡ None = ap f (sym this ∙ sym same) ∙ is in let bad : false ≡ true = sym (ap is_some none) ∙ gives in cc)
            | inr more ↦ rest replies r more gives alive.1 (front.0, tail) e
          ]
      go None is false passes (one ∷ replies) i alive front e rest = rest (one ∷ replies) r i gives alive front e

-- ---- what a post answers

only_death : (h : History) (c k a : ℕ) (post : Post) → answer_in h c k a post ≡ Some (Err ActorDied) → post ≡ DeathPost c a
only_death h c k a (ReplyPost d b place) e = absurd (reply_alive h c k a d b place e refl)
only_death h c k a (DeathPost d b) e =
    let both = and_parts (d == c) (b == a) (cond_gives ((d == c) && (b == a)) (Some (Err ActorDied)) e).0 in
    ap (λ n. DeathPost n b) (eqb-true d c both.0) ∙ ap (λ n. DeathPost c n) (eqb-true b a both.1)

-- a place of the caller's is among its places
place_listed : (c : ℕ) (log : List RunItem) (p : ℕ) (item : RunItem) → slice_get log p ≡ Some item → item.caller ≡ c → IsIn (places_of c log) p
place_listed c log p item at mine =
    let zero_add : 0 + p ≡ p = omega arith in
    let there : slice_get (enumerate_from 0 log) p ≡ Some (p, item) =
    slice_get-enumerate_from 0 log p ∙ ap (option_map (λ x. (0 + p, x))) at ∙ ap (λ n. Some (n, item)) zero_add in
    let kept = slice_get-filter (λ (ran : ℕ × RunItem). ran.1.caller == c) (enumerate_from 0 log) p there (eq-eqb item.caller c mine) in
    record {
      place = _;
      at = slice_get-map (λ (ran : ℕ × RunItem). ran.0) (filter (λ (ran : ℕ × RunItem). ran.1.caller == c) (enumerate_from 0 log)) _ ∙
          ap (option_map (λ (ran : ℕ × RunItem). ran.0)) kept;
    }

replies_alive : (c a : ℕ) (places : List ℕ) → AllByRecursion (λ x. x ≢ DeathPost c a) (map (λ place. ReplyPost c a place) places)
replies_alive c a [] = tt
replies_alive c a (place ∷ places) = ((λ e. cc), replies_alive c a places)

-- ---- a call that ran

module _ (h : History) (sound : IsSound h) (c a k p : ℕ) (item : RunItem) (at : slice_get (runs_of a h) p ≡ Some item) (caller : item.caller ≡ c)
    (future : item.future ≡ k) (state : KindState) (opened : opening_of a h ≡ Some state) (call : Submission) (called : slice_get (calls_of c h) k ≡ Some call)
    (to : call.actor ≡ a) (line : CollectsInLine h c a) where
  is_mine : is_item_of c k (slice_get (runs_of a h) p) ≡ true
  is_mine = ap (is_item_of c k) at ∙ ap (λ b. b && (item.future == k)) (eq-eqb item.caller c caller) ∙ eq-eqb item.future k future

  answered : is_some (answer_of a p h) ≡ true
  answered = ap (λ o. is_some (option_and_then (λ s. answer_at s (runs_of a h) p) o)) opened ∙ there (runs_of a h) p at state
    where
      there : (log : List RunItem) (p : ℕ) {item : RunItem} → slice_get log p ≡ Some item → (s : KindState) → is_some (answer_at s log p) ≡ true
      there [] p at s = cc
      there (x ∷ log) zero at s = refl
      there (x ∷ log) (suc p) {item} at s = there log p at _

  gives : is_some (answer_in h c k a (ReplyPost c a p)) ≡ true
  gives = ap (λ b. is_some (cond (b && is_item_of c k (slice_get (runs_of a h) p)) (answer_of a p h) None)) (eq-eqb c c refl)
      ∙ ap (λ b. is_some (cond b (answer_of a p h) None)) is_mine ∙ answered

  between : is_between c a (DeathPost c a) ≡ true
  between = ap (λ b. b && (a == a)) (eq-eqb c c refl) ∙ eq-eqb a a refl

  pub not_dead : kept_at (kept_of c h) k ≢ Some (Err ActorDied)
  not_dead e =
      let told : kept_by h c k (slice_get (calls_of c h) k) ≡ Some (Err ActorDied) = sym (kept_at_is h c k) ∙ e in
      let first : first_answer h c (k, call) ≡ Some (Err ActorDied) = subst (λ o. kept_by h c k o ≡ Some (Err ActorDied)) called told in
      let here : slice_get (filter_map (answer_in h c k a) h.collected) 0 ≡ Some (Err ActorDied) =
      subst (λ n. slice_get (filter_map (answer_in h c k n) h.collected) 0 ≡ Some (Err ActorDied)) to first in
      never_first (answer_in h c k a) (is_between c a) (DeathPost c a) (only_death h c k a) between h.collected
      (map (λ place. ReplyPost c a place) (places_of c (runs_of a h))) (ReplyPost c a p)
      (in_map (λ place. ReplyPost c a place) (place_listed c (runs_of a h) p item at caller)) gives (replies_alive c a (places_of c (runs_of a h))) line here

-- ---- all calls

-- the call of an item went to the item's actor
record IsItemCall (h : History) (a : ℕ) (item : RunItem) : Type 0 where
  call : Submission
  at : slice_get (calls_of item.caller h) item.future ≡ Some call
  to : call.actor ≡ a

item_call : (h : History) → IsSound h → (a p : ℕ) (item : RunItem) → slice_get (runs_of a h) p ≡ Some item → IsItemCall h a item
item_call h sound a p item at =
    let c = item.caller in
    let mine = slice_get-filter (λ (i : RunItem). i.caller == c) (runs_of a h) p at (eq-eqb c c refl) in
    let m : ℕ = length (filter (λ (i : RunItem). i.caller == c) (take p (runs_of a h))) in
    let pair : slice_get (map numbered (items_of c (runs_of a h))) m ≡ Some (numbered item) =
    slice_get-map numbered (items_of c (runs_of a h)) m ∙ ap (option_map numbered) mine in
    let there : slice_get (enumerate_from 0 (map (λ (call : ℕ × Submission). call.0) (calls_to a (calls_of c h)))) m ≡ Some (numbered item) =
    slice_get_front _ _ m ((consistent h sound).in_order a c) pair in
    go m (slice_get (calls_to a (calls_of c h)) m) refl (sym (slice_get-enumerate_from 0 (map (λ (call : ℕ × Submission). call.0) (calls_to a (calls_of c h)))
    m ∙ ap (option_map (λ x. (0 + m, x))) (slice_get-map (λ (call : ℕ × Submission). call.0) (calls_to a (calls_of c h)) m)) ∙ there)
  where
    go : (m : ℕ) (o : Option (ℕ × Submission)) → slice_get (calls_to a (calls_of item.caller h)) m ≡ o →
        option_map (λ x. (0 + m, x)) (option_map (λ (call : ℕ × Submission). call.0) o) ≡ Some (numbered item) → IsItemCall h a item
    go m None at e = cc
    go m (Some call) at e =
        let both : (0 + m, call.0) ≡ numbered item = cc in let future : call.0 ≡ item.future = ap (λ (x : ℕ × ℕ). x.1) both in
        let to = calls_to-at a (calls_of item.caller h) m at in
        record { call = call.1; at = subst (λ k. slice_get (calls_of item.caller h) k ≡ Some call.1) future to.at; to = to.actor }

pub died_unrun : {h : History} → IsSound h → ((a p : ℕ) (item : RunItem) → slice_get (runs_of a h) p ≡ Some item →
    (state : KindState) × (opening_of a h ≡ Some state)) → ((c a : ℕ) → CollectsInLine h c a) → CallsThatDiedNeverRan (λ d. kept_of d h) (λ b. runs_of b h)
died_unrun {h} sound opened lines c k e a p item at caller future =
    let call = item_call h sound a p item at in let state = opened a p item at in
    let called : slice_get (calls_of c h) k ≡ Some call.call =
    subst (λ n. slice_get (calls_of c h) n ≡ Some call.call) future (subst (λ n. slice_get (calls_of n h) item.future ≡ Some call.call) caller call.at) in
    not_dead h sound c a k p item at caller future state.0 state.1 call.call called call.to (lines c a) e
