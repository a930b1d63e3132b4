-- What leaves the choices as they are.
use Rattle.act_early.proofs.Common.{◌≡◌, ℕ, zero, suc, Bool, true, false, cond, List, [], ◌∷◌, ◌++◌, Option, Some, None, refl, ap, sym, ◌∙◌, ◌==◌, ◌&&◌, map}
use Rattle.act_early.proofs.Common.{filter_map, slice_get, Err, cons_option, filter_map-append, ActorDied, Event, RunItem, Submission, Post, Answer, kept_at}
use Rattle.act_early.proofs.Common.{History, under, runs_of, calls_of, kept_of, answer_in, first_answer, add_event, slice_get_front, filter_map-same}
use Rattle.act_early.proofs.Common.{All_weaker, Grows, added_grows, calls_grow, IsSoundPost, PostsAreSound, answer_in_stays, kept_by, kept_at_is}
use Rattle.act_early.proofs.Common.{held_submission, IsSound, is_reply, is_heard, choices_of, first_answer-same, DeathPost}

-- functions that agree on each item of a list map it to the same list
pub map-same_at : {A B : Type 0} (f g : A → B) (xs : List A) → ((place : ℕ) (x : A) → slice_get xs place ≡ Some x → f x ≡ g x) → map f xs ≡ map g xs
map-same_at f g [] each = refl
map-same_at {B = B} f g (x ∷ xs) each = ap (λ y. y ∷ map f xs) (each zero x refl) ∙ ap (λ l. g x ∷ l) (map-same_at f g xs (λ k y at. each (suc k) y at))

-- ---- the first answer

-- what was collected answers the same later
pub answers_same : (h g : History) (c : ℕ) (call : ℕ × Submission) → Grows h g → PostsAreSound h
    → filter_map (answer_in g c call.0 call.1.actor) h.collected ≡ filter_map (answer_in h c call.0 call.1.actor) h.collected
answers_same h g c call grows s =
    filter_map-same (answer_in g c call.0 call.1.actor) (answer_in h c call.0 call.1.actor) h.collected
    (All_weaker (IsSoundPost h) (λ post. answer_in g c call.0 call.1.actor post ≡ answer_in h c call.0 call.1.actor post) h.collected
    (answer_in_stays h c call.0 call.1.actor grows) s.collected)

pub first_more : (h g : History) (c : ℕ) (call : ℕ × Submission) (post : Post) → Grows h g → PostsAreSound h → g.collected ≡ h.collected ++ post ∷ [] →
    first_answer g c call ≡ slice_get (filter_map (answer_in h c call.0 call.1.actor) h.collected ++ cons_option (answer_in g c call.0 call.1.actor post) []) 0
first_more h g c call post grows s more =
    ap (λ posts. slice_get (filter_map (answer_in g c call.0 call.1.actor) posts) 0) more
    ∙ ap (λ l. slice_get l 0)
    (filter_map-append (answer_in g c call.0 call.1.actor) h.collected (post ∷ [])
    ∙ ap (λ l. l ++ cons_option (answer_in g c call.0 call.1.actor post) []) (answers_same h g c call grows s))

-- one answer more that is no reply
no_reply_more : (xs : List Answer) (o : Option Answer) → is_reply o ≡ false → is_reply (slice_get (xs ++ cons_option o []) 0) ≡ is_reply (slice_get xs 0)
no_reply_more [] None e = refl
no_reply_more [] (Some answer) e = e
no_reply_more (x ∷ xs) o e = refl

-- ---- what is heard

-- the kept answer of a call that stands
pub kept_first : (h : History) (c k : ℕ) {call : Submission} → slice_get (calls_of c h) k ≡ Some call → kept_at (kept_of c h) k ≡ first_answer h c (k, call)
kept_first h c k at = kept_at_is h c k ∙ ap (kept_by h c k) at

-- growing without collecting doesn't change, in a sound history, whether the reply of a call that ran was kept
pub heard_quiet : (h : History) {g : History} (a place : ℕ) {item : RunItem} → Grows h g → IsSound h → g.collected ≡ h.collected
    → slice_get (runs_of a h) place ≡ Some item → is_heard g item ≡ is_heard h item
heard_quiet h {g} a place {item} grows sound same at =
    let c = item.caller in let k = item.future in
    let call = held_submission h a {c = c} k place sound.order at refl refl in
    let there = slice_get_front (calls_of c h) (calls_of c g) k (calls_grow c grows) call.1 in
    ap is_reply (kept_first g c k there ∙ first_answer-same h g c (k, call.0) grows sound.posts same ∙ sym (kept_first h c k call.1))

-- a collected post that is no reply to a call that ran doesn't change, in a sound history, whether its reply was kept
pub heard_more : (h : History) {g : History} (a place : ℕ) (item : RunItem) (post : Post) → Grows h g → IsSound h → g.collected ≡ h.collected ++ post ∷ [] →
    slice_get (runs_of a h) place ≡ Some item → ((b : ℕ) → is_reply (answer_in g item.caller item.future b post) ≡ false) → is_heard g item ≡ is_heard h item
heard_more h {g} a place item post grows sound more at none =
    let c = item.caller in let k = item.future in
    let call = held_submission h a {c = c} k place sound.order at refl refl in
    let there = slice_get_front (calls_of c h) (calls_of c g) k (calls_grow c grows) call.1 in
    ap is_reply (kept_first g c k there ∙ first_more h g c (k, call.0) post grows sound.posts more)
    ∙ no_reply_more (filter_map (answer_in h c k call.0.actor) h.collected) (answer_in g c k call.0.actor post) (none call.0.actor)
    ∙ ap is_reply (sym (kept_first h c k call.1))

pub death_no_reply : (h : History) (c k b d a : ℕ) → is_reply (answer_in h c k b (DeathPost d a)) ≡ false
death_no_reply h c k b d a = go ((d == c) && (a == b))
  where
    go : (x : Bool) → is_reply (cond x (Some (Err ActorDied)) None) ≡ false
    go true = refl
    go false = refl

-- ---- the choices

-- an actor's choices are the same where the same ran, and of each of its runs the reply is kept in both or in none
pub choices_same : (h g : History) (a : ℕ) → g.ran ≡ h.ran
    → ((place : ℕ) (item : RunItem) → slice_get (runs_of a h) place ≡ Some item → is_heard g item ≡ is_heard h item) → choices_of a g ≡ choices_of a h
choices_same h g a ran heard =
    ap (λ l. map (λ (item : RunItem). (item.caller, is_heard g item)) (under a l)) ran
    ∙ map-same_at (λ (item : RunItem). (item.caller, is_heard g item)) (λ (item : RunItem). (item.caller, is_heard h item)) (runs_of a h)
    (λ place item at. ap (λ b. (item.caller, b)) (heard place item at))

-- an event that runs and collects nothing
pub choices_quiet : (h : History) (other : Event) (a : ℕ) → IsSound h → (add_event h other).ran ≡ h.ran → (add_event h other).collected ≡ h.collected
    → choices_of a (add_event h other) ≡ choices_of a h
choices_quiet h other a sound ran same = choices_same h (add_event h other) a ran (λ place item at. heard_quiet h a place (added_grows h other) sound same at)
