-- When the rules accept a collection or a notice, and what an event leaves as it was.
use Rattle.act_rules.proofs.Common.{◌≡◌, ℕ, ◌+◌, ◌==◌, Bool, true, false, List, ◌∷◌, ◌++◌, length, Option, Some, None, refl, ap, filter, slice_get, is_some}
use Rattle.act_rules.proofs.Common.{list_all, enumerate_from, and_from, eq-eqb, or_right, suc, Event, Collect, Tell, Post, RunItem, Submission, ActorSpec}
use Rattle.act_rules.proofs.Common.{History, opening, contains, cast_of, names, is_caller, is_dead, refusal_of, after, after_run, [], if◌then◌else◌, history}
use Rattle.act_rules.proofs.Steps.{after_all-append}

-- one event more
pub history_more : (casts : List ActorSpec) (first : List Event) (event : Event) → history casts (first ++ event ∷ []) ≡ after (history casts first) event
history_more casts first event = after_all-append (opening casts) first (event ∷ [])

-- what was posted can be collected
pub collect_unrefused : (h : History) (j : ℕ) {post : Post} → slice_get h.posts j ≡ Some post → refusal_of h (Collect j) ≡ None
collect_unrefused h j at = rw at refl

-- a caller that a dead actor's cast names can be told
pub telling_unrefused : (h : History) (a c : ℕ) → is_caller c h ≡ true → names c (cast_of a h) ≡ true → is_dead a h ≡ true → refusal_of h (Tell a c) ≡ None
telling_unrefused h a c caller named dead = rw (caller, named, dead) refl

-- a run collects nothing
pub run_collected : (a c : ℕ) (h : History) (o : Option RunItem) → (after_run a c h o).collected ≡ h.collected
run_collected a c h None = refl
run_collected a c h (Some item) = refl

-- who is named has a cast that names it
pub some_cast : (c : ℕ) (o : Option ActorSpec) → names c o ≡ true → is_some o ≡ true
some_cast c None e = cc
some_cast c (Some cast) e = refl

-- what holds of each that a list contains holds of all of it
pub all_from_each : (p : ℕ → Bool) (xs : List ℕ) → ((c : ℕ) → contains c xs ≡ true → p c ≡ true) → list_all p xs ≡ true
all_from_each p [] each = refl
all_from_each p (x ∷ xs) each =
    and_from (p x) (list_all p xs) (each x (rw (eq-eqb x x refl) refl)) (all_from_each p xs (λ c e. each c (or_right (x == c) (contains c xs) e)))

-- as many calls to an actor with their numbers as without
pub calls_to-length : (a n : ℕ) (calls : List Submission) →
    length (filter (λ (call : ℕ × Submission). call.1.actor == a) (enumerate_from n calls)) ≡ length (filter (λ (call : Submission). call.actor == a) calls)
calls_to-length a n [] = refl
calls_to-length a n (call ∷ calls) = both (call.actor == a) (calls_to-length a (n + 1) calls)
  where
    both : (b : Bool) → length (filter (λ (c : ℕ × Submission). c.1.actor == a) (enumerate_from (n + 1) calls)) ≡ length
        (filter (λ (c : Submission). c.actor == a) calls) → length (if b then (n, call) ∷ filter (λ (c : ℕ × Submission). c.1.actor == a)
        (enumerate_from (n + 1) calls) else filter (λ (c : ℕ × Submission). c.1.actor == a) (enumerate_from (n + 1) calls)) ≡ length
        (if b then call ∷ filter (λ (c : Submission). c.actor == a) calls else filter (λ (c : Submission). c.actor == a) calls)
    both true e = ap suc e
    both false e = e
