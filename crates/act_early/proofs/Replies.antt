-- Replies and deaths, and what is collected.
use Rattle.act_early.proofs.Common.{◌≡◌, ◌≢◌, ℕ, zero, suc, ◌≤◌, true, false, List, [], ◌∷◌, length, Option, Some, None, refl, ap, ◌∙◌, subst, arith, Contains}
use Rattle.act_early.proofs.Common.{length-append, ◌==◌, ◌&&◌, filter_map, slice_get, Ok, Err, cons_option, eq-eqb, and_from, Fault, ActorDied, Submission}
use Rattle.act_early.proofs.Common.{Answer, kept_at, History, calls_of, kept_of, answer_in, IsPrefix, kept_at_is, kept_by, is_reply, DeathPost}

-- ---- replies

-- where there is a reply there is an answer
pub reply_some : (o : Option Answer) → is_reply o ≡ true → (answer : Answer) × (o ≡ Some answer)
reply_some None e = cc
reply_some (Some answer) e = (answer, refl)

-- an answer that is a reply isn't a death
pub reply_alive : (answer : Answer) → is_reply (Some answer) ≡ true → answer ≢ Err ActorDied
reply_alive answer e died = let bad : is_reply (Some (Err ActorDied)) ≡ true = subst (λ x. is_reply (Some x) ≡ true) died e in cc

fault_died : (fault : Fault) → is_reply (Some (Err fault)) ≡ false → fault ≡ ActorDied
fault_died ActorDied e = refl
fault_died fault e = cc

-- an answer that is no reply is a death
pub reply_died : (answer : Answer) → is_reply (Some answer) ≡ false → answer ≡ Err ActorDied
reply_died (Ok value) e = cc
reply_died (Err fault) e = ap (λ f. Err f) (fault_died fault e)

-- ---- a death that is collected

-- what stands in a list and gives something: then some first gives something
pub some_first : {A B : Type 0} (f : A → Option B) (xs : List A) (x : A) {y : B} → Contains xs x → f x ≡ Some y
    → (z : B) × (slice_get (filter_map f xs) 0 ≡ Some z)
some_first f [] x has gives = absurd (let below = has.1 in omega arith)
some_first {A = A} {B = B} f (w ∷ xs) x {y} (zero, below, is) gives = go (f w) (ap f is ∙ gives)
  where
    go : (o : Option B) → o ≡ Some y → (z : B) × (slice_get (cons_option o (filter_map f xs)) 0 ≡ Some z)
    go None e = cc
    go (Some first) e = (first, refl)
some_first {A = A} {B = B} f (w ∷ xs) x {y} (suc i, below, is) gives = go (f w) (some_first f xs x (i, omega arith, is) gives)
  where
    go : (o : Option B) → (z : B) × (slice_get (filter_map f xs) 0 ≡ Some z) → (z : B) × (slice_get (cons_option o (filter_map f xs)) 0 ≡ Some z)
    go None rest = rest
    go (Some first) rest = (first, refl)

-- a call to an actor whose death was collected has an answer
pub death_answers : (h : History) (c k : ℕ) {call : Submission} → slice_get (calls_of c h) k ≡ Some call → Contains h.collected (DeathPost c call.actor)
    → (answer : Answer) × (kept_at (kept_of c h) k ≡ Some answer)
death_answers h c k {call} at has =
    let both : ((c == c) && (call.actor == call.actor)) ≡ true =
    and_from (c == c) (call.actor == call.actor) (eq-eqb c c refl) (eq-eqb call.actor call.actor refl) in
    let gives : answer_in h c k call.actor (DeathPost c call.actor) ≡ Some (Err ActorDied) = rw both refl in
    let first = some_first (answer_in h c k call.actor) h.collected (DeathPost c call.actor) has gives in
    (first.0, kept_at_is h c k ∙ ap (kept_by h c k) at ∙ first.1)

-- ---- fronts

-- a prefix is no longer than the whole list
pub front_short : {A : Type 0} (xs ys : List A) → IsPrefix xs ys → length xs ≤ length ys
front_short xs ys f = rw (← f.1, length-append) (omega arith)
