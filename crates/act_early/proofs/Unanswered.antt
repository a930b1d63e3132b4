-- The call that an actor runs next has no answer yet.
use Rattle.act_early.proofs.Common.{◌≡◌, ℕ, zero, suc, ◌+◌, ◌<◌, Bool, true, false, cond, List, [], ◌∷◌, length, Option, Some, None, refl, ap, sym, ◌∙◌, subst}
use Rattle.act_early.proofs.Common.{arith, ◌==◌, filter, take, slice_get, enumerate_from, eq-eqb, slice_get_within, RunItem, Submission, Answer, items_of}
use Rattle.act_early.proofs.Common.{calls_to, number_of, kept_at, History, runs_of, calls_of, kept_of, is_dead, is_ended, ran_count, slice_get-filter}
use Rattle.act_early.proofs.Common.{calls_to-at, map-slice_get, held_call, held_submission, rank, IsSound, answers_are, deaths_are, is_reply}
use Rattle.act_early.proofs.Worlds.{not_dead}
use Rattle.act_early.proofs.Replies.{reply_alive, reply_died}

-- ---- the number of a call

record IsNumbered (a n k m : ℕ) (xs : List Submission) : Type 0 where
  place : ℕ
  is : k ≡ m + place
  number : n ≡ length (filter (λ (s : Submission). s.actor == a) (take place xs))

numbered_from : (a m : ℕ) (xs : List Submission) (n : ℕ) (call : ℕ × Submission)
    → slice_get (filter (λ (c : ℕ × Submission). c.1.actor == a) (enumerate_from m xs)) n ≡ Some call → IsNumbered a n call.0 m xs
numbered_from a m [] n call e = cc
numbered_from a m (x ∷ xs) n call e = go (x.actor == a) refl n (λ i. numbered_from a (m + 1) xs i call) e
  where
    go : (b : Bool) → (x.actor == a) ≡ b → (n : ℕ) → ((i : ℕ) → slice_get (filter (λ (c : ℕ × Submission). c.1.actor == a) (enumerate_from (m + 1) xs)) i ≡
        Some call → IsNumbered a i call.0 (m + 1) xs) → slice_get (cond b ((m, x) ∷ filter (λ (c : ℕ × Submission). c.1.actor == a) (enumerate_from (m + 1) xs))
        (filter (λ (c : ℕ × Submission). c.1.actor == a) (enumerate_from (m + 1) xs))) n ≡ Some call → IsNumbered a n call.0 m (x ∷ xs)
    go true is zero rest e = let same : (m, x) ≡ call =
        cc in record { place = 0; is = sym (ap (λ (p : ℕ × Submission). p.0) same) ∙ (omega arith); number = refl }
    go true is (suc n) rest e = let r = rest n e in record { place = suc r.place; is = r.is ∙ omega arith; number = rw is (ap suc r.number) }
    go false is n rest e = let r = rest n e in record { place = suc r.place; is = r.is ∙ omega arith; number = rw is r.number }

-- a call's number is its place among its caller's calls to the actor
pub number_is : (a n : ℕ) (calls : List Submission) {call : ℕ × Submission} → slice_get (calls_to a calls) n ≡ Some call → number_of a call.0 calls ≡ n
number_is a n calls {call} e =
    let r = numbered_from a 0 calls n call e in let same : call.0 ≡ r.place = r.is ∙ omega arith in ap (λ k. number_of a k calls) same ∙ sym r.number

-- ---- it hasn't run

-- no item of a run list is the call that runs next
pub next_is_new : (h : History) (a c place : ℕ) (call : ℕ × Submission) (item : RunItem) → IsSound h →
    slice_get (calls_to a (calls_of c h)) (ran_count c a h) ≡ Some call → slice_get (runs_of a h) place ≡ Some item → item.caller ≡ c → item.future ≡ call.0 → ⊥
next_is_new h a c place call item sound next at caller future =
    let n = rank c place (runs_of a h) in
    let other = map-slice_get (λ (s : ℕ × Submission). s.0) (calls_to a (calls_of c h)) n
    (held_call h a place sound.order at caller future) in
    let first : number_of a call.0 (calls_of c h) ≡ n =
    ap (λ k. number_of a k (calls_of c h)) (sym other.2) ∙ number_is a n (calls_of c h) other.1 in
    let second : number_of a call.0 (calls_of c h) ≡ ran_count c a h = number_is a (ran_count c a h) (calls_of c h) next in
    let mine : slice_get (items_of c (runs_of a h)) n ≡ Some item =
    slice_get-filter (λ (i : RunItem). i.caller == c) (runs_of a h) place at (eq-eqb item.caller c caller) in
    let less : n < ran_count c a h = slice_get_within (items_of c (runs_of a h)) n item mine in absurd (omega (arith, first, second, less))

-- so it has no answer, while its actor lives
pub next_unanswered : (h : History) (a c : ℕ) {call : ℕ × Submission} → IsSound h → slice_get (calls_to a (calls_of c h)) (ran_count c a h) ≡ Some call
    → is_ended a h ≡ false → kept_at (kept_of c h) call.0 ≡ None
next_unanswered h a c {call} sound next live = go (kept_at (kept_of c h) call.0) refl
  where
    stands : (slice_get (calls_of c h) call.0 ≡ Some call.1) × (call.1.actor ≡ a)
    stands = let s = calls_to-at a (calls_of c h) (ran_count c a h) next in (s.at, s.actor)

    actor_of : {other : Submission} → slice_get (calls_of c h) call.0 ≡ Some other → other.actor ≡ a
    actor_of {other} at = let e : Some other ≡ Some call.1 = sym at ∙ stands.0 in let same : other ≡ call.1 =
        cc in ap (λ (s : Submission). s.actor) same ∙ stands.1

    some : (answer : Answer) → kept_at (kept_of c h) call.0 ≡ Some answer → (x : Bool) → is_reply (Some answer) ≡ x → ⊥
    some answer e true reply =
        let own = answers_are c call.0 sound e (reply_alive answer reply) in
        let held = held_submission h own.actor call.0 own.place sound.order own.at own.caller own.future in
        let actor : own.actor ≡ a = sym held.2 ∙ actor_of held.1 in
        next_is_new h a c own.place call own.item sound next
        (subst (λ b. slice_get (runs_of b h) own.place ≡ Some own.item) actor own.at) own.caller own.future
    some answer e false died =
        let gone = deaths_are c call.0 sound (e ∙ ap (λ x. Some x) (reply_died answer died)) in
        let dead : is_dead a h ≡ true = subst (λ b. is_dead b h ≡ true) (actor_of gone.at) gone.dead in
        let alive : is_dead a h ≡ false = not_dead a h live in let bad : true ≡ false = sym dead ∙ alive in cc

    go : (o : Option Answer) → kept_at (kept_of c h) call.0 ≡ o → kept_at (kept_of c h) call.0 ≡ None
    go None e = e
    go (Some answer) e = absurd (some answer e (is_reply (Some answer)) refl)
