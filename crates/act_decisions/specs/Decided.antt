-- What is decided of a history.
use Rattle.std.specs.Prelude.{◌≡◌, ◌⊎◌, ℕ, true, List, map, All, IsOk, Some}
use Rattle.act_types.specs.KindState.{KindState}
use Rattle.act_rules.specs.declared.event.Event.{Event}
use Rattle.act_rules.specs.declared.script.Role.{Role}
use Rattle.act_rules.specs.declared.script.Step.{Step}
use Rattle.act_rules.specs.History.{ActorSpec, opening, actors_naming}
use Rattle.act_rules.specs.Rules.{outcomes}
use Rattle.act_rules.specs.Plans.{first_bad}
use Rattle.act_rules.specs.Scripts.{actor_spec_of}
use Rattle.act_console.specs.Plans.{steps_of_caller}
use Rattle.act_world.specs.IsReachedBy.{IsReachedBy}
use Rattle.act_world.specs.View.{world_view}
use Rattle.act_walks.specs.declared.played.Walked.{Walked}
use Rattle.act_walks.specs.declared.told.ToldEnd.{ToldEnd}
use Rattle.act_walks.specs.Fits.{bound_of}
use Rattle.act_walks.specs.Whole.{Decides, DoesAllSteps}
use Rattle.act_decisions.specs.declared.deciding.Decision.{Decision}
use Rattle.act_decisions.specs.declared.deciding.Decision.TheVariants as decision
use Rattle.act_decisions.specs.Misplaced.{IsMisplaced}
use Rattle.act_decisions.specs.Placed.{RunsArePlaced, AllDecided, NoValueIsLost}
use Rattle.act_decisions.specs.Play.{EndsSo, awaits}
use Rattle.act_decisions.specs.Read.{AreSayable, IsLined}

-- no events that a script can write end as steps and lines tell
abbrev pub EndsNowhere : List ActorSpec → List (ℕ × Step × ℕ) → List ℕ → Type 0
EndsNowhere casts steps rest = (events : List Event) → AreSayable events → EndsSo casts steps events rest → ⊥

-- the caller awaits an answer, and of its own steps the one at this place is the first that every play refuses
pub record IsBadStep (casts : List ActorSpec) (steps : List (ℕ × Step × ℕ)) (c place : ℕ) : Type 0 where
  pub awaits : awaits c steps ≡ true
  pub bad : first_bad (actors_naming c casts) (steps_of_caller c steps) ≡ Some place

-- what is decided of these events holds
abbrev pub IsDecision : List ActorSpec → List (ℕ × Step × ℕ) → List ℕ → List Event → Decision → Type 0
IsDecision casts steps rest events decision.Ends = EndsSo casts steps events rest
IsDecision casts steps rest events decision.Nowhere = EndsNowhere casts steps rest
IsDecision casts steps rest events (decision.BadStep c place) = IsBadStep casts steps c place
IsDecision casts steps rest events decision.Open = Unit {0}

-- ---- a walk

-- a walk after what was read, in a world of these casts; `state` reads a kind
pub record IsWalkAfter {K : Type 0} (state : K → KindState) (end : ToldEnd) (casts : List ActorSpec)
    (walk : Walked K) : Type 0 where
  pub accepted : All IsOk (outcomes (opening casts) walk.events.items)
  pub reached : IsReachedBy casts walk.events.items (world_view state walk.world)
  pub does : walk.is_done ≡ true → (c : ℕ) (plan : List Step) → bound_of end c ≡ Some plan →
      DoesAllSteps casts c plan walk.events.items
  pub decides : Decides end casts walk.events.items walk.is_done

-- the same of a caller that is bound to steps
pub record IsBadIn (end : ToldEnd) (casts : List ActorSpec) (c place : ℕ) : Type 0 where
  pub plan : List Step
  pub bound : bound_of end c ≡ Some plan
  pub bad : first_bad (actors_naming c casts) plan ≡ Some place

-- a run is told that no events leave, or nothing has to be guessed
abbrev pub Refutes : ToldEnd → List Role → List ℕ → List Event → Type 0
Refutes end roles rest walk = IsLined end roles rest
    × (IsMisplaced end ⊎ (RunsArePlaced end × AllDecided (map actor_spec_of roles) end
    × NoValueIsLost (map actor_spec_of roles) end × AreSayable walk))
