-- How callers that are bound to steps keep to them in a list of events.
use Rattle.std.specs.Prelude.{◌≡◌, ℕ, ◌<◌, List, [], ◌∷◌, ◌++◌, map, length, take, slice_get, Option, Some, None}
use Rattle.act_rules.specs.declared.event.Event.{Event}
use Rattle.act_rules.specs.declared.event.Event.TheVariants as event
use Rattle.act_rules.specs.declared.script.Step.{Step}
use Rattle.act_rules.specs.declared.script.Step.TheVariants.{Release}
use Rattle.act_rules.specs.History.{ActorSpec}
use Rattle.act_told_ends.specs.Walked.{one_step_more}
use Rattle.act_executor.specs.PlanPlays.{step_of, DoesStepIn, DoesPlanIn}

-- each caller that is bound to steps did the first of them, so many, in these events, and no other step; once it did
-- them all it may let handles go
pub data IsPaced (casts : List ActorSpec) (bound : ℕ → Option (List Step)) : (ℕ → ℕ) → List Event → Type 0 where
  Starts : IsPaced casts bound (λ c. 0) []
  -- a bound caller does its next step
  Steps : (done : ℕ → ℕ) (events now : List Event) (c : ℕ) (steps : List Step) (step : Step) → bound c ≡ Some steps →
      slice_get steps (done c) ≡ Some step → DoesStepIn casts c step events now → IsPaced casts bound done events →
      IsPaced casts bound (one_step_more c done) (events ++ now)
  -- an event that is no step of a bound caller
  Others : (done : ℕ → ℕ) (events : List Event) (other : Event) →
      ((c : ℕ) (steps : List Step) → bound c ≡ Some steps → step_of c other ≡ None) → IsPaced casts bound done events →
      IsPaced casts bound done (events ++ other ∷ [])
  -- a bound caller that did all its steps lets a handle go
  Closes : (done : ℕ → ℕ) (events : List Event) (c a : ℕ) (steps : List Step) → bound c ≡ Some steps →
      done c ≡ length steps → IsPaced casts bound done events →
      IsPaced casts bound done (events ++ event.Release c a ∷ [])

-- each of them did all its steps
abbrev pub AreAllDone : (ℕ → Option (List Step)) → (ℕ → ℕ) → Type 0
AreAllDone bound done = (c : ℕ) (steps : List Step) → bound c ≡ Some steps → done c ≡ length steps

-- so a caller that did all its steps did these in their order, and then let some handles go
abbrev pub DoesAllItsSteps : Type 0
DoesAllItsSteps = (casts : List ActorSpec) (bound : ℕ → Option (List Step)) (done : ℕ → ℕ) (events : List Event)
    (c : ℕ) (steps : List Step) →
    IsPaced casts bound done events → bound c ≡ Some steps → done c ≡ length steps →
    (closing : List ℕ) × DoesPlanIn casts c (steps ++ map (λ a. Release a) closing) [] events

-- and one that has steps left did those before them, and nothing else
abbrev pub DoesTheFirst : Type 0
DoesTheFirst = (casts : List ActorSpec) (bound : ℕ → Option (List Step)) (done : ℕ → ℕ) (events : List Event)
    (c : ℕ) (steps : List Step) →
    IsPaced casts bound done events → bound c ≡ Some steps → done c < length steps →
    DoesPlanIn casts c (take (done c) steps) [] events
