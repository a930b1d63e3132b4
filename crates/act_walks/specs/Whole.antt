-- A whole walk, from the opened world on.
use Rattle.std.specs.Prelude.{◌≡◌, ℕ, ◌≤◌, Bool, true, List, [], ◌++◌, map, length, Some}
use Rattle.act_rules.specs.declared.event.Event.{Event}
use Rattle.act_rules.specs.declared.script.Step.{Step}
use Rattle.act_rules.specs.declared.script.Step.TheVariants.{Release}
use Rattle.act_rules.specs.History.{ActorSpec}
use Rattle.act_rules.specs.Laws.{history}
use Rattle.act_told_ends.specs.Told.{Told, Leaves}
use Rattle.act_told_ends.specs.Retiring.{RetiredAsTold}
use Rattle.act_executor.specs.PlanPlays.{DoesPlanIn}
use Rattle.act_walks.specs.declared.told.ToldCaller.{ToldCaller}
use Rattle.act_walks.specs.declared.told.ToldEnd.{ToldEnd}
use Rattle.act_walks.specs.Eager.{SomeEnd}
use Rattle.act_walks.specs.Fits.{Fits, FitsCasts, bound_of, steps_in}
use Rattle.act_walks.specs.Paced.{AreAllDone}
use Rattle.act_walks.specs.Walking.{Parts, done_in, Stands, IsEndOf}

-- the caller of this number did all the steps that it is bound to, if it is bound to some
abbrev pub HasDone : List ℕ → ℕ → ToldCaller → Type 0
HasDone done number caller = (steps : List Step) → steps_in caller ≡ Some steps → length steps ≤ done_in done number

-- and so did each caller
abbrev pub HaveDone : ToldEnd → List ℕ → Type 0
HaveDone end done = (c : ℕ) (steps : List Step) → bound_of end c ≡ Some steps → length steps ≤ done_in done c

-- the end is as is told
pub record IsAtEnd (casts : List ActorSpec) (told : Told) (events : List Event) : Type 0 where
  pub leaves : Leaves told (history casts events)
  pub retired : RetiredAsTold told (history casts events)

-- a walk goes as far as it can, and this is whether each bound caller did all its steps
pub record GoesFar (end : ToldEnd) (old new : Parts) (is_done : Bool) : Type 0 where
  pub stands : (casts : List ActorSpec) → Stands end casts old → Stands end casts new
  pub does : is_done ≡ true → (casts : List ActorSpec) → Stands end casts old →
      AreAllDone (bound_of end) (done_in new.done)
  pub decides : (casts : List ActorSpec) (told : Told) → IsEndOf end casts told → Stands end casts old →
      old.events ≡ [] → ((c : ℕ) → done_in old.done c ≡ 0) → (is_done ≡ true) × IsAtEnd casts told new.events

-- the caller did these steps in their order, and then let some handles go
abbrev pub DoesAllSteps : List ActorSpec → ℕ → List Step → List Event → Type 0
DoesAllSteps casts c steps events =
    (closing : List ℕ) × DoesPlanIn casts c (steps ++ map (λ a. Release a) closing) [] events

-- where some events end as is told, which the data says, so do these, and each bound caller did all its steps
abbrev pub Decides : ToldEnd → List ActorSpec → List Event → Bool → Type 0
Decides end casts events is_done = (told : Told) → SomeEnd casts (bound_of end) told → Fits end told →
    FitsCasts end casts → (is_done ≡ true) × IsAtEnd casts told events
