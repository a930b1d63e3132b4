-- Of a plan of which no step is refused, the kill that comes next can be asked.
use Rattle.act_told_ends.proofs.Common.{◌≡◌, ◌≢◌, ℕ, zero, suc, ◌+◌, ◌-◌, Bool, true, false, cond, List, [], ◌∷◌, length, take, filter, Option, Some, None}
use Rattle.act_told_ends.proofs.Common.{refl, ap, sym, ◌∙◌, arith, ◌==◌, find, slice_get, is_some, list_any, slice_get_within, Step, Copy, Release, Kill, Await}
use Rattle.act_told_ends.proofs.Common.{handle_refusal, ActorSpec, History, names, cast_of, is_caller, count_pairs, copies_of, refusal_of, occurrences}
use Rattle.act_told_ends.proofs.Common.{AllPairs, actors_naming, occurrences-push, named_among, Told, IsWalk, DidFirst, copies, releases}
use Rattle.act_rules.specs.declared.event.Event.TheVariants as event
use Rattle.act_rules.specs.declared.outcome.HandleRefusal.{HandleRefusal}
use Rattle.act_rules.specs.Plans.{Progress, nothing_done, holds, is_refused, do_step, first_bad, first_bad_from}
use Rattle.act_rules.proofs.Planned.{names_is}

-- what a caller did after these steps
abbrev did : Progress → List Step → Progress
did p [] = p
did p (step ∷ steps) = did (do_step p step) steps

-- no step of the plan is refused where it comes
not_refused : (n : ℕ) (actors : List ℕ) (p : Progress) (steps : List Step) (k : ℕ) {step : Step} → first_bad_from n actors p steps ≡ None
    → slice_get steps k ≡ Some step → is_refused actors (did p (take k steps)) step ≡ false
not_refused n actors p [] k good at = cc
not_refused n actors p (first ∷ steps) k {step} good at =
    go (is_refused actors p first) refl good k at (λ rest j next. not_refused (n + 1) actors (do_step p first) steps j rest next)
  where
    go : (b : Bool) → is_refused actors p first ≡ b → cond b (Some n) (first_bad_from (n + 1) actors (do_step p first) steps) ≡ None → (k : ℕ) →
        slice_get (first ∷ steps) k ≡ Some step → (first_bad_from (n + 1) actors (do_step p first) steps ≡ None → (j : ℕ) → slice_get steps j ≡ Some step →
        is_refused actors (did (do_step p first) (take j steps)) step ≡ false) → is_refused actors (did p (take k (first ∷ steps))) step ≡ false
    go true is bad k at later = cc
    go false is rest zero at later = let same : first ≡ step = cc in ap (is_refused actors p) (sym same) ∙ is
    go false is rest (suc k) at later = later rest k at

-- ---- handles

counted : (m : ℕ) (y : Bool) (n : ℕ) (step : Step) (steps : List Step) → n ≡ length steps → (m + cond y 1 0) + n ≡ m + length (cond y (step ∷ steps) steps)
counted m true n step steps e = omega (arith, e)
counted m false n step steps e = omega (arith, e)

did_copied : (a : ℕ) (p : Progress) (steps : List Step) → occurrences a (did p steps).copied ≡ occurrences a p.copied + length (filter (copies a) steps)
did_copied a p [] = omega arith
did_copied a p (Copy b ∷ steps) = did_copied a (do_step p (Copy b)) steps ∙ ap (λ n. n + length (filter (copies a) steps)) (occurrences-push a b p.copied) ∙
    counted (occurrences a p.copied) (b == a) (length (filter (copies a) steps)) (Copy b) (filter (copies a) steps) refl
did_copied a p (Kill b ∷ steps) = did_copied a p steps
did_copied a p (Await k ∷ steps) = did_copied a p steps
did_copied a p (step ∷ steps) = did_copied a (do_step p step) steps

did_released : (a : ℕ) (p : Progress) (steps : List Step) → occurrences a (did p steps).released ≡ occurrences a p.released + length (filter (releases a) steps)
did_released a p [] = omega arith
did_released a p (Release b ∷ steps) = did_released a (do_step p (Release b)) steps ∙ ap (λ n. n + length (filter (releases a) steps)) (occurrences-push a b
    p.released) ∙ counted (occurrences a p.released) (b == a) (length (filter (releases a) steps)) (Release b) (filter (releases a) steps) refl
did_released a p (Kill b ∷ steps) = did_released a p steps
did_released a p (Await k ∷ steps) = did_released a p steps
did_released a p (step ∷ steps) = did_released a (do_step p step) steps

-- ---- the kill

-- where no two casts are of one actor, a bound caller in a walk can ask the kill that is next, if no step is refused
pub can_ask : (casts : List ActorSpec) {bound : ℕ → Option (List Step)} {told : Told} (done : ℕ → ℕ) (h : History) (c a : ℕ) (steps : List Step)
    → AllPairs (λ one other. one.actor ≢ other.actor) casts → h.casts ≡ casts → IsWalk bound told done h → bound c ≡ Some steps
    → first_bad (actors_naming c casts) steps ≡ None → slice_get steps (done c) ≡ Some (Kill a) → refusal_of h (event.AskKill c a) ≡ None
can_ask casts done h c a steps differ are walk is good next = go (names c (cast_of a h)) refl
  where
    actors : List ℕ
    actors = actors_naming c casts

    p : Progress
    p = did nothing_done (take (done c) steps)

    none_yet : (m : ℕ) → m ≡ 0 + m
    none_yet m = omega arith

    first : DidFirst c (done c) steps h
    first = walk.steps c steps is

    named : names c (cast_of a h) ≡ list_any (λ b. b == a) actors
    named = ap (λ l. names c (find (λ (cast : ActorSpec). cast.actor == a) l)) are ∙ names_is c a casts differ

    copied : count_pairs c a h.copied ≡ occurrences a p.copied
    copied = first.copied a ∙ none_yet (length (filter (copies a) (take (done c) steps))) ∙ sym (did_copied a nothing_done (take (done c) steps))

    released : count_pairs c a h.released ≡ occurrences a p.released
    released = first.released a (slice_get_within steps (done c) (Kill a) next) ∙ none_yet (length (filter (releases a) (take (done c) steps)))
        ∙ sym (did_released a nothing_done (take (done c) steps))

    same : copies_of c a h ≡ holds a actors p
    same = ap (λ b. cond b (Some ((1 + count_pairs c a h.copied) - count_pairs c a h.released)) None) named
        ∙ ap (λ n. cond (list_any (λ b. b == a) actors) (Some ((1 + n) - count_pairs c a h.released)) None) copied
        ∙ ap (λ n. cond (list_any (λ b. b == a) actors) (Some ((1 + occurrences a p.copied) - n)) None) released

    allowed : handle_refusal (copies_of c a h) ≡ None
    allowed = ap handle_refusal same ∙ none (handle_refusal (holds a actors p)) (not_refused 0 actors nothing_done steps (done c) good next)
      where
        none : (o : Option HandleRefusal) → is_some o ≡ false → o ≡ None
        none None e = refl
        none (Some refusal) e = cc

    go : (b : Bool) → names c (cast_of a h) ≡ b → refusal_of h (event.AskKill c a) ≡ None
    go true e = let known : is_caller c h ≡ true = named_among c a h.casts e in rw (known, allowed) refl
    go false e =
        let stranger : copies_of c a h ≡ None =
        ap (λ b. cond b (Some ((1 + count_pairs c a h.copied) - count_pairs c a h.released)) None) e in
        let bad : handle_refusal None ≡ None = ap handle_refusal (sym stranger) ∙ allowed in cc
