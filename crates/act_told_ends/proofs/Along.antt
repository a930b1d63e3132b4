-- Events that stand for others: a caller that does its steps in those does them in these.
use Rattle.act_told_ends.proofs.Common.{◌≡◌, ℕ, suc, List, [], ◌∷◌, ◌++◌, None, ap, sym, ◌∙◌, subst, arith, append_assoc, All, All-cons, All-nil, IsOk, Event}
use Rattle.act_told_ends.proofs.Common.{Step, ActorSpec, History, opening, refusal_of, add_event, after_by, outcome_of, outcomes, after, after_all, history}
use Rattle.act_told_ends.proofs.Common.{after_all-append, IsSound, sound_step, world_sound, AreOthers, DoesStepBy, DoesStepsBy, accepted_none}
use Rattle.act_told_ends.proofs.Later.{IsLater, later_same, later_trans, later_event}

-- ---- accepted events

-- where all events are accepted, the first is
pub first_ok : (h : History) (other : Event) (events : List Event) → All IsOk (outcomes h (other ∷ events)) → refusal_of h other ≡ None
first_ok h other events ok = accepted_none h other (ok 0 (outcome_of h other) (omega arith))

-- and so are the others, after it
pub rest_ok : (h : History) (other : Event) (events : List Event) → All IsOk (outcomes h (other ∷ events)) → All IsOk (outcomes (after h other) events)
rest_ok h other events ok = λ i d within. ok (suc i) d (omega arith)

-- an event that isn't refused leaves the history with what it adds
pub after_is : (h : History) (other : Event) → refusal_of h other ≡ None → after h other ≡ add_event h other
after_is h other may = ap (after_by h other) may

-- the first of accepted events, and those after them
pub front_ok : (h : History) (xs ys : List Event) → All IsOk (outcomes h (xs ++ ys)) → All IsOk (outcomes h xs) × All IsOk (outcomes (after_all h xs) ys)
front_ok h [] ys ok = (All-nil IsOk, ok)
front_ok h (x ∷ xs) ys ok =
    let rest = front_ok (after h x) xs ys (rest_ok h x (xs ++ ys) ok) in
    (All-cons IsOk (outcome_of h x) (outcomes (after h x) xs) (ok 0 (outcome_of h x) (omega arith)) rest.0, rest.1)

-- accepted events lead to a later history
pub all_later : (h : History) (events : List Event) → IsSound h → All IsOk (outcomes h events) → IsLater h (after_all h events)
all_later h [] sound ok = later_same h
all_later h (other ∷ events) sound ok =
    let may = first_ok h other events ok in let is = after_is h other may in
    later_trans (subst (λ (g : History). IsLater h g) (sym is) (later_event other sound may))
    (all_later (after h other) events (subst (λ (g : History). IsSound g) (sym is) (sound_step h other sound may)) (rest_ok h other events ok))

pub history_more : (casts : List ActorSpec) (before more : List Event) → history casts (before ++ more) ≡ after_all (history casts before) more
history_more casts before more = after_all-append (opening casts) before more

-- ---- the first of them, and the rest

-- all that is known of the events of which these are the first and the rest
pub record IsSplit (casts : List ActorSpec) (late : History) (before events : List Event) : Type 0 where
  pub ok : All IsOk (outcomes (opening casts) (before ++ events))
  pub later : IsLater (history casts (before ++ events)) late

-- of two lists of events in a row, all events of the first are accepted
pub split_front : {casts : List ActorSpec} {late : History} {before : List Event} (events : List Event) → IsSplit casts late before events
    → All IsOk (outcomes (opening casts) before)
split_front {casts} {before} events s = (front_ok (opening casts) before events s.ok).0

pub split_rest : {casts : List ActorSpec} {late : History} {before events : List Event} → IsSplit casts late before events
    → All IsOk (outcomes (history casts before) events)
split_rest {casts} {before} {events} s = (front_ok (opening casts) before events s.ok).1

-- the history between the two comes before the late one
pub split_later : {casts : List ActorSpec} {late : History} {before events : List Event} → IsSplit casts late before events
    → IsLater (history casts before) late
split_later {casts} {late} {before} {events} s = later_trans (all_later (history casts before) events (world_sound casts before) (split_rest s))
    (subst (λ (g : History). IsLater g late) (history_more casts before events) s.later)

pub split_more : {casts : List ActorSpec} {late : History} {before : List Event} (more events : List Event) → IsSplit casts late before (more ++ events)
    → IsSplit casts late (before ++ more) events
split_more {casts} {late} {before} more events s =
    let joined : before ++ (more ++ events) ≡ (before ++ more) ++ events = sym (append_assoc before more events) in
    record { ok = subst (λ l. All IsOk (outcomes (opening casts) l)) joined s.ok; later = subst (λ l. IsLater (history casts l) late) joined s.later }

-- ---- what stands for them

-- `all` gives what stands for some events after a history, joined for events that are joined; no step is new, and each stays one
module _ (casts : List ActorSpec) (late : History) (all : History → List Event → List Event) (c : ℕ)
    (joins : (h : History) (xs ys : List Event) → all h (xs ++ ys) ≡ all h xs ++ all (after_all h xs) ys)
    (others_stand : (h : History) (events : List Event) → AreOthers c events → AreOthers c (all h events))
    (one_stands : (step : Step) (before done rest : List Event) → IsSplit casts late before (done ++ rest) → DoesStepBy casts c step before done
    → DoesStepBy casts c step (all (opening casts) before) (all (history casts before) done)) where
  -- a caller that does these steps in some events does them in what stands for these
  pub does_all : (steps : List Step) (before events : List Event) → IsSplit casts late before events → DoesStepsBy casts c steps before events
      → DoesStepsBy casts c steps (all (opening casts) before) (all (history casts before) events)
  does_all [] before events s does = others_stand (history casts before) events does
  does_all (step ∷ steps) before events s (first, done, later, split, others, does, rest) =
      let h = history casts before in let first_there : List Event = all h first in
      let done_there : List Event = all (history casts (before ++ first)) done in
      let done_is : all (after_all h first) done ≡ done_there = ap (λ (g : History). all g done) (sym (history_more casts before first)) in
      let end_is : history casts ((before ++ first) ++ done) ≡ after_all h (first ++ done) =
      ap (history casts) (append_assoc before first done) ∙ history_more casts before (first ++ done) in
      let one : IsSplit casts late (before ++ first) (done ++ later) =
      split_more first (done ++ later) (subst (λ l. IsSplit casts late before l) (split ∙ append_assoc first done later) s) in (
        first_there,
        done_there,
        all (history casts ((before ++ first) ++ done)) later,
        ap (all h) split ∙ joins h (first ++ done) later ∙ ap (λ l. l ++ all (after_all h (first ++ done)) later) (joins h first done) ∙ ap (λ l. (first_there
            ++ l) ++ all (after_all h (first ++ done)) later) done_is ∙ ap (λ (g : History). (first_there ++ done_there) ++ all g later) (sym end_is),
        others_stand h first others,
        subst (λ l. DoesStepBy casts c step l done_there) (joins (opening casts) before first) (one_stands step (before ++ first) done later one does),
        subst (λ l. DoesStepsBy casts c steps l (all (history casts ((before ++ first) ++ done)) later)) (joins (opening casts) (before ++ first) done ∙
            ap (λ l. l ++ done_there) (joins (opening casts) before first)) (does_all steps ((before ++ first) ++ done) later (split_more done later one) rest),
      )
