-- What two purses hold together: after events of a world, and after a run in threads.
use Rattle.std.specs.Prelude.{◌≡◌, ℕ, ◌+◌, ◌==◌, false, List, find, map, Option, Some, None, option_and_then}
use Rattle.std.specs.Global.{Vec}
use Rattle.actors.specs.Event.{Event}
use Rattle.actors.specs.Step.{Step}
use Rattle.actors.specs.Rules.{ActorSpec, History, history}
use Rattle.actors.specs.Rules.{cast_of, runs_of, is_dead}
use Rattle.actors.specs.Actors.{state_after}
use Rattle.actors.specs.Callers.{OwnerView}
use Rattle.actors.specs.Threads.{IsJoined, plan_of, EndView, end_view, end_id}
use Rattle.actors.specs.Plays.{IsPlayedAsPlanned}
use Rattle.actors.specs.PlanEnds.{LeadsToEnd}
use Rattle.actors.specs.Ended.{Ended}
use Rattle.actors.specs.Ended.TheVariants.{Retired}
use Rattle.actors.specs.Finished.{Finished}
use Rattle.actors.specs.RunItem.{RunItem}
use Rattle.example_transfer.specs.declared.purse.Purse.{Purse}
use Rattle.example_transfer.specs.declared.together.Together.{Together}
use Rattle.example_transfer.specs.declared.checked.Verdict.{Verdict}
use Rattle.example_transfer.specs.declared.checked.Verdict.TheVariants.{Kept, Changed}
use Rattle.example_transfer.specs.declared.purses.Purses.{Purses}
use Rattle.example_transfer.specs.Purse.{purse_at}
use Rattle.example_transfer.specs.Purses.{casts_of, together_of}

-- ---- after events of a world

-- the actor isn't dead, and its run list left it as this purse
pub record IsPurse (h : History) (a : ℕ) (purse : Purse) : Type 0 where
  pub lives : is_dead a h ≡ false
  pub cast : ActorSpec
  pub cast_is : cast_of a h ≡ Some cast
  pub state : state_after cast.opening (runs_of a h) ≡ purse_at purse

-- the two purses hold the sum together
pub record HoldTogether (together : Together) (h : History) : Type 0 where
  pub one : Purse
  pub other : Purse
  pub one_is : IsPurse h together.one one
  pub other_is : IsPurse h together.other other
  pub sum_is : one.held + other.held ≡ together.sum

-- they don't: they hold another sum, or one of them is none any more
abbrev pub HoldOtherwise : Together → History → Type 0
HoldOtherwise together h = HoldTogether together h → ⊥

-- the purse that the actor is, if it is one
abbrev pub IsPurseIn : History → ℕ → Option Purse → Type 0
IsPurseIn h a (Some purse) = IsPurse h a purse
IsPurseIn h a None = (purse : Purse) → IsPurse h a purse → ⊥

-- ---- after a run in threads

-- how an actor ended that is a purse, and what it left: each keeps its run list
abbrev pub PurseEnd : Type 0
PurseEnd = Ended Purse (Vec RunItem)

abbrev pub PurseLeft : Type 0
PurseLeft = Finished Purse (Vec RunItem)

-- how the actors ended
abbrev pub ends_of : List PurseLeft → List EndView
ends_of actors = map (λ actor. end_view purse_at actor.ended) actors

-- the purse of an actor that retired
abbrev pub purse_of_end : PurseEnd → Option Purse
purse_of_end (Retired retired) = Some retired.state
purse_of_end end = None

-- the purse with which this actor retired
abbrev pub purse_left : ℕ → List PurseLeft → Option Purse
purse_left a actors = option_and_then (λ actor. purse_of_end actor.ended)
    (find (λ actor. end_id (end_view purse_at actor.ended) == a) actors)

-- both retired, and the two purses hold the sum together
pub record AreLeftTogether (together : Together) (actors : List PurseLeft) : Type 0 where
  pub one : Purse
  pub other : Purse
  pub one_is : purse_left together.one actors ≡ Some one
  pub other_is : purse_left together.other actors ≡ Some other
  pub sum_is : one.held + other.held ≡ together.sum

-- ---- what is said of plans

-- the events are a play of the plans to its end, and there the purses don't hold together what they held at first
abbrev pub IsChange : Purses → List (ℕ × List Step) → List Event → Type 0
IsChange purses plans events = LeadsToEnd (casts_of purses) (λ c. plan_of c plans) events
    × HoldOtherwise (together_of purses) (history (casts_of purses) events)

-- whatever a run of the plans in threads leaves, the purses hold together what they held at first
abbrev pub IsKeptInThreads : Purses → List (ℕ × List Step) → Type 0
IsKeptInThreads purses plans = (owners : List OwnerView) (actors : List PurseLeft) →
    IsJoined (casts_of purses) plans owners (ends_of actors) →
    IsPlayedAsPlanned (casts_of purses) plans owners (ends_of actors) → AreLeftTogether (together_of purses) actors

-- no run in threads makes or loses money; or these events do
abbrev pub IsAnswer : Purses → List (ℕ × List Step) → Option (Vec Event) → Type 0
IsAnswer purses plans None = IsKeptInThreads purses plans
IsAnswer purses plans (Some events) = IsChange purses plans events.items

-- this run in threads made and lost none; or these events do
abbrev pub IsVerdict : Purses → List (ℕ × List Step) → Verdict → Type 0
IsVerdict purses plans (Kept joined) = AreLeftTogether (together_of purses) joined.actors.items
IsVerdict purses plans (Changed events) = IsChange purses plans events.items
