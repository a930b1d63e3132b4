-- What callers keep where they collected more replies.
use Rattle.act_told_ends.proofs.Common.{◌≡◌, ℕ, ◌≤◌, Bool, true, false, cond, List, [], ◌∷◌, ◌++◌, length, map, Option, Some, None, inl, inr, ◌⊎◌, refl, ap}
use Rattle.act_told_ends.proofs.Common.{sym, ◌∙◌, subst, arith, Contains, ◌==◌, ◌&&◌, filter, filter_map, slice_get, is_some, is_none, Ok, Err, eqb-true}
use Rattle.act_told_ends.proofs.Common.{and_parts, append-nil, filter_map-append, Contains-append_left, Contains-append_right, ActorDied, Arg, RunItem}
use Rattle.act_told_ends.proofs.Common.{Submission, Post, Answer, calls_to, kept_at, settle, ActorSpec, History, runs_of, calls_of, kept_of, answer_in}
use Rattle.act_told_ends.proofs.Common.{answer_of, is_item_of, unanswered, kept_at_is, kept_by, slice_get_front, IsSound, Plain, Fut, Bad, settled_future}
use Rattle.act_told_ends.proofs.Common.{ReplyPost, DeathPost, Told, Leaves, MayStandForKept, IsReplyForDeath, place_in, stands_in, filter_map_alike}
use Rattle.act_told_ends.proofs.Later.{IsLater}
use Rattle.act_told_ends.proofs.Lists.{push_at, first_in, some_first}

-- what some events left, and answers that may stand for those
pub record Open : Type 0 where
  pub casts : List ActorSpec
  pub told : Told
  pub kept : ℕ → List (Option Answer)
  pub last : History
  pub opened : last.casts ≡ casts
  pub sound : IsSound last
  pub leaves : Leaves told last
  pub stand : MayStandForKept casts told kept

-- ---- which calls are given a reply

abbrev is_second : {A B : Type 0} → A ⊎ B → Bool
is_second (inl a) = false
is_second (inr b) = true

first_of : {A B : Type 0} (s : A ⊎ B) → is_second s ≡ false → A
first_of (inl a) e = a
first_of (inr b) e = cc

second_of : {A B : Type 0} (s : A ⊎ B) → is_second s ≡ true → B
second_of (inl a) e = cc
second_of (inr b) e = b

-- whether a reply stands for the death that is told of the call
abbrev pub is_replaced : Open → ℕ → ℕ → Bool
is_replaced x c k = is_second ((x.stand c).1 k)

-- of a call whose death is replaced a death is told, and what stands for it may have been the call's reply
pub replaced : (x : Open) (c k : ℕ) → is_replaced x c k ≡ true → IsReplyForDeath x.casts x.told x.kept c k
replaced x c k e = second_of ((x.stand c).1 k) e

pub unreplaced : (x : Open) (c k : ℕ) → is_replaced x c k ≡ false → kept_at (x.kept c) k ≡ kept_at (x.told.kept c) k
unreplaced x c k e = first_of ((x.stand c).1 k) e

-- ---- more replies collected

-- a reply to such a call
abbrev pub IsPut : Open → Post → Type 0
IsPut x (ReplyPost c a place) = (item : RunItem) × (slice_get (x.told.runs a) place ≡ Some item) × (item.caller ≡ c) × (is_replaced x c item.future ≡ true)
IsPut x (DeathPost c a) = ⊥

-- the same posts, and such replies between them
pub record IsMore (x : Open) (xs ys : List Post) : Type 0 where
  pub all : (p : Post) → Contains xs p → Contains ys p
  pub same : (f : Post → Option Answer) → ((p : Post) → IsPut x p → f p ≡ None) → filter_map f ys ≡ filter_map f xs

pub more_none : (x : Open) → IsMore x [] []
more_none x = record { all = λ p has. has; same = λ f none. refl }

pub more_both : (x : Open) (xs ys : List Post) (p : Post) → IsMore x xs ys → IsMore x (xs ++ p ∷ []) (ys ++ p ∷ [])
more_both x xs ys p more = record {
  all = λ q has. (let at = place_in (xs ++ p ∷ []) q has in go q (push_at xs p at.0 at.1));
  same = λ f none. filter_map-append f ys (p ∷ []) ∙ ap (λ l. l ++ filter_map f (p ∷ [])) (more.same f none) ∙ sym (filter_map-append f xs (p ∷ []));
}
  where
    go : (q : Post) {i : ℕ} → (slice_get xs i ≡ Some q) ⊎ ((i ≡ length xs) × (q ≡ p)) → Contains (ys ++ p ∷ []) q
    go q {i} (inl there) = Contains-append_left ys (p ∷ []) q (more.all q (stands_in xs i there))
    go q {i} (inr last) = subst (λ r. Contains (ys ++ p ∷ []) r) (sym last.1) (Contains-append_right ys (p ∷ []) p (0, omega arith, refl))

pub more_put : (x : Open) {xs : List Post} (ys : List Post) (p : Post) → IsPut x p → IsMore x xs ys → IsMore x xs (ys ++ p ∷ [])
more_put x ys p put more = record {
  all = λ q has. Contains-append_left ys (p ∷ []) q (more.all q has);
  same = λ f none. filter_map-append f ys (p ∷ []) ∙ nothing f (none p put) ∙ more.same f none;
}
  where
    nothing : (f : Post → Option Answer) → f p ≡ None → filter_map f ys ++ filter_map f (p ∷ []) ≡ filter_map f ys
    nothing f none = rw none (append-nil (filter_map f ys))

-- the history, but with these posts as those that were collected
abbrev pub with_collected : History → List Post → History
with_collected h posts = record h { collected = posts }

-- ---- what is kept

pub answer_same : (h : History) (posts : List Post) (c k b : ℕ) (p : Post) → answer_in (with_collected h posts) c k b p ≡ answer_in h c k b p
answer_same h posts c k b (ReplyPost d a place) = refl
answer_same h posts c k b (DeathPost d a) = refl

item_there : (c k : ℕ) (o : Option RunItem) → is_item_of c k o ≡ true → (item : RunItem) × (o ≡ Some item) × (item.caller ≡ c) × (item.future ≡ k)
item_there c k None e = cc
item_there c k (Some item) e =
    let parts = and_parts (item.caller == c) (item.future == k) e in (item, refl, eqb-true item.caller c parts.0, eqb-true item.future k parts.1)

both_false : (y z : Bool) → (y ≡ true → z ≡ true → ⊥) → (y && z) ≡ false
both_false false z f = refl
both_false true false f = refl
both_false true true f = absurd (f refl refl)

-- the call is none of those that ran and whose reply stands for a death
abbrev pub IsNoneOfThose : Open → History → ℕ → ℕ → Type 0
IsNoneOfThose x h c k = (a place : ℕ) (item : RunItem) → slice_get (runs_of a h) place ≡ Some item → item.caller ≡ c → item.future ≡ k
    → is_replaced x c k ≡ true → ⊥

put_none : (x : Open) (h : History) (c k b : ℕ) → IsLater h x.last → IsNoneOfThose x h c k → (p : Post) → IsPut x p → answer_in h c k b p ≡ None
put_none x h c k b later none (DeathPost d a) put = absurd put
put_none x h c k b later none (ReplyPost d a place) (item, at, caller, is) =
    let both : (d == c) ≡ true → is_item_of c k (slice_get (runs_of a h) place) ≡ true → ⊥ =
    λ mine e. let there = item_there c k (slice_get (runs_of a h) place) e in
    let told : slice_get (x.told.runs a) place ≡ Some there.0 = ap (λ l. slice_get l place) (sym (x.leaves.runs a))
    ∙ slice_get_front (runs_of a h) (runs_of a x.last) place (later.early.runs a) there.1 in
    let one : there.0 ≡ item = let e : Some there.0 ≡ Some item = sym told ∙ at in cc in
    none a place there.0 there.1 there.2 there.3
    (subst (λ j. is_replaced x c j ≡ true) (ap (λ (i : RunItem). i.future) (sym one) ∙ there.3)
    (subst (λ e. is_replaced x e item.future ≡ true) (eqb-true d c mine) is)) in
    ap (λ y. cond y (answer_of a place h) None) (both_false (d == c) (is_item_of c k (slice_get (runs_of a h) place)) both)

pub kept_same : (x : Open) (h : History) (posts : List Post) (c k : ℕ) → IsLater h x.last → IsMore x h.collected posts → IsNoneOfThose x h c k
    → kept_at (kept_of c (with_collected h posts)) k ≡ kept_at (kept_of c h) k
kept_same x h posts c k later more none = kept_at_is g c k ∙ go (slice_get (calls_of c h) k) ∙ sym (kept_at_is h c k)
  where
    g : History
    g = with_collected h posts

    go : (o : Option Submission) → kept_by g c k o ≡ kept_by h c k o
    go None = refl
    go (Some call) = ap (λ l. slice_get l 0) (
        filter_map_alike (answer_in g c k call.actor) (answer_in h c k call.actor) posts (answer_same h posts c k call.actor)
        ∙ more.same (answer_in h c k call.actor) (put_none x h c k call.actor later none))

-- where no reply stands for a death, the same is kept
pub kept_unreplaced : (x : Open) (h : History) {posts : List Post} (c k : ℕ) → IsLater h x.last → IsMore x h.collected posts → is_replaced x c k ≡ false
    → kept_at (kept_of c (with_collected h posts)) k ≡ kept_at (kept_of c h) k
kept_unreplaced x h {posts} c k later more not = kept_same x h posts c k later more
    (λ a place item at caller future is. let bad : true ≡ false = sym is ∙ not in cc)

-- what has an answer has one
pub kept_more : (x : Open) (h : History) {posts : List Post} (c k : ℕ) → IsMore x h.collected posts → is_some (kept_at (kept_of c h) k) ≡ true
    → is_some (kept_at (kept_of c (with_collected h posts)) k) ≡ true
kept_more x h {posts} c k more e =
    ap (λ o. is_some o) (kept_at_is g c k)
    ∙ go (slice_get (calls_of c h) k) (sym (ap (λ o. is_some o) (kept_at_is h c k)) ∙ e)
  where
    g : History
    g = with_collected h posts

    answered : (call : Submission) (o : Option Answer) → slice_get (filter_map (answer_in h c k call.actor) h.collected) 0 ≡ o → is_some o ≡ true
        → is_some (slice_get (filter_map (answer_in g c k call.actor) posts) 0) ≡ true
    answered call None is e = cc
    answered call (Some answer) is e =
        let found = first_in (answer_in h c k call.actor) h.collected answer is in
        let there = place_in posts found.0 (more.all found.0 (stands_in h.collected found.1 found.2)) in
        let first = some_first (answer_in g c k call.actor) posts there.0 answer there.1 (answer_same h posts c k call.actor found.0 ∙ found.3) in
        ap (λ o. is_some o) first.1

    go : (o : Option Submission) → is_some (kept_by h c k o) ≡ true → is_some (kept_by g c k o) ≡ true
    go None e = cc
    go (Some call) e = answered call (slice_get (filter_map (answer_in h c k call.actor) h.collected) 0) refl e

-- ---- a caller's calls without an answer are no more

fewer : (p q : ℕ × Submission → Bool) (xs : List (ℕ × Submission)) → ((y : ℕ × Submission) → p y ≡ true → q y ≡ true)
    → length (filter p xs) ≤ length (filter q xs)
fewer p q [] each = omega arith
fewer p q (y ∷ xs) each = go (p y) (q y) (each y) (fewer p q xs each)
  where
    go : (b d : Bool) → (b ≡ true → d ≡ true) → length (filter p xs) ≤ length (filter q xs)
        → length (cond b (y ∷ filter p xs) (filter p xs)) ≤ length (cond d (y ∷ filter q xs) (filter q xs))
    go true true f le = omega (arith, le)
    go true false f le = let bad : false ≡ true = f refl in cc
    go false true f le = omega (arith, le)
    go false false f le = le

none_some : (o p : Option Answer) → (is_some o ≡ true → is_some p ≡ true) → is_none p ≡ true → is_none o ≡ true
none_some None p f e = refl
none_some (Some answer) None f e = let bad : false ≡ true = f refl in cc
none_some (Some answer) (Some other) f e = cc

pub unanswered_less : (x : Open) (h : History) (posts : List Post) (c a : ℕ) → IsMore x h.collected posts
    → unanswered c a (with_collected h posts) ≤ unanswered c a h
unanswered_less x h posts c a more =
    fewer (λ call. is_none (kept_at (kept_of c (with_collected h posts)) call.0)) (λ call. is_none (kept_at (kept_of c h) call.0)) (calls_to a (calls_of c h))
    (λ call e. none_some (kept_at (kept_of c h) call.0) (kept_at (kept_of c (with_collected h posts)) call.0) (kept_more x h c call.0 more) e)

-- ---- the arguments of what runs

-- where each that failed there is a failed one here, they are the same
pub settled_same : (x : Open) (h : History) {posts : List Post} (c : ℕ) (args : List Arg) → IsLater h x.last → IsMore x h.collected posts → ((j : ℕ) →
    Contains (map (settle (kept_of c h)) args) (Bad j) → is_replaced x c j ≡ true → settled_future j (kept_at (kept_of c (with_collected h posts)) j) ≡ Bad j) →
    map (settle (kept_of c (with_collected h posts))) args ≡ map (settle (kept_of c h)) args
settled_same x h c [] later more failed = refl
settled_same x h {posts} c (arg ∷ args) later more failed =
    let later_one : (j : ℕ) → Contains (map (settle (kept_of c h)) args) (Bad j) → Contains (map (settle (kept_of c h)) (arg ∷ args)) (Bad j) =
    λ j has. Contains-append_right (settle (kept_of c h) arg ∷ []) (map (settle (kept_of c h)) args) (Bad j) has in
    ap (λ s. s ∷ map (settle (kept_of c g)) args) (one arg (λ j e is. failed j (0, omega arith, e) is))
    ∙ ap (λ l. settle (kept_of c h) arg ∷ l) (settled_same x h c args later more (λ j has is. failed j (later_one j has) is))
  where
    g : History
    g = with_collected h posts

    one : (arg : Arg) → ((j : ℕ) → settle (kept_of c h) arg ≡ Bad j → is_replaced x c j ≡ true → settled_future j (kept_at (kept_of c g) j) ≡ Bad j)
        → settle (kept_of c g) arg ≡ settle (kept_of c h) arg
    one (Plain value) failed = refl
    one (Fut j) failed = go (is_replaced x c j) refl
      where
        -- a reply stands only for a death, and a death is a failed argument
        died : is_replaced x c j ≡ true → (o : Option Answer) → kept_at (kept_of c h) j ≡ o → settled_future j o ≡ Bad j
        died is None e = refl
        died is (Some (Err fault)) e = refl
        died is (Some (Ok value)) e =
            let told : kept_at (x.told.kept c) j ≡ Some (Ok value) = ap (λ l. kept_at l j) (sym (x.leaves.kept c))
            ∙ later.early.kept c j (Ok value) e in
            let bad : ◌≡◌ {A = Option Answer} (Some (Ok value)) (Some (Err ActorDied)) = sym told ∙ (replaced x c j is).0 in cc

        go : (b : Bool) → is_replaced x c j ≡ b → settle (kept_of c g) (Fut j) ≡ settle (kept_of c h) (Fut j)
        go false is = ap (settled_future j) (kept_unreplaced x h c j later more is)
        go true is = let bad = died is (kept_at (kept_of c h) j) refl in failed j bad is ∙ sym bad
