-- What the steps of a kind of one's own keep: of every actor of a world, and of every one that threads left.
use Rattle.std.specs.Prelude.{◌≡◌, ℕ, List, [], slice_get, Option, Some, None}
use Rattle.act_types.specs.KindState.{KindState, OwnAt}
use Rattle.act_types.specs.Own.{Ask, StepOf, behaves}
use Rattle.act_rules.specs.declared.event.Event.{Event}
use Rattle.act_rules.specs.declared.history.RunItem.{RunItem}
use Rattle.act_rules.specs.declared.script.Step.{Step}
use Rattle.act_rules.specs.RunList.{Answer}
use Rattle.act_rules.specs.OwnRuns.{told_in, IsKept, Left}
use Rattle.act_rules.specs.History.{ActorSpec, opening, opening_of}
use Rattle.act_owner.specs.Owner.{OwnerView}
use Rattle.act_world.specs.View.{SlotView, Runs, Died, Ended, Vacant, WorldView}
use Rattle.act_world.specs.IsReachedBy.{IsReachedBy}
use Rattle.act_serve.specs.Served.{EndView, Killed, Retired, Starved}
use Rattle.act_executor.specs.Joined.{IsJoined, end_of}

-- an actor that has its kind still: it is in a state of which, and of what it was told, the property holds
pub record Keeps {S : Type 0} (step : StepOf S) (written : S → List ℕ) (holds : List (Ask × Answer) → S → Type 0)
    (opened : KindState) (log : List RunItem) (seen : KindState) : Type 0 where
  pub state : S
  pub is : seen ≡ OwnAt (behaves step written state)
  pub kept : holds (told_in opened log) state

-- an actor of a world that opened so: a dead one has its log alone
abbrev pub SlotKeeps : {S : Type 0} → StepOf S → (S → List ℕ) → (List (Ask × Answer) → S → Type 0) → KindState →
    Option SlotView → Type 0
SlotKeeps step written holds opened (Some (Runs live)) = Keeps step written holds opened live.log live.state
SlotKeeps step written holds opened (Some (Ended retired)) = Keeps step written holds opened retired.log retired.state
SlotKeeps step written holds opened (Some (Died dead)) = Left step written holds opened dead.log
SlotKeeps step written holds opened (Some Vacant) = Unit {0}
SlotKeeps step written holds opened None = Unit {0}

-- an actor that threads left
abbrev pub EndKeeps : {S : Type 0} → StepOf S → (S → List ℕ) → (List (Ask × Answer) → S → Type 0) → KindState →
    Option EndView → Type 0
EndKeeps step written holds opened (Some (Retired retired)) = Keeps step written holds opened retired.log retired.state
EndKeeps step written holds opened (Some (Killed dead)) = Left step written holds opened dead.log
EndKeeps step written holds opened (Some (Starved dead)) = Left step written holds opened dead.log
EndKeeps step written holds opened None = Unit {0}

-- the actor's cast opens the kind at this state
abbrev pub OpensAt : {S : Type 0} → StepOf S → (S → List ℕ) → List ActorSpec → ℕ → S → Type 0
OpensAt step written casts a start = opening_of a (opening casts) ≡ Some (OwnAt (behaves step written start))

-- after any events of a world
abbrev pub KeptInEachWorld : {S : Type 0} → StepOf S → (S → List ℕ) → (List (Ask × Answer) → S → Type 0) → Type 0
KeptInEachWorld {S} step written holds = IsKept step holds →
    (casts : List ActorSpec) (events : List Event) (world : WorldView) → IsReachedBy casts events world →
    (a : ℕ) (start : S) → OpensAt step written casts a start → holds [] start →
    SlotKeeps step written holds (OwnAt (behaves step written start)) (slice_get world.slots a)

-- after any run of plans in threads
abbrev pub KeptInEachRun : {S : Type 0} → StepOf S → (S → List ℕ) → (List (Ask × Answer) → S → Type 0) → Type 0
KeptInEachRun {S} step written holds = IsKept step holds →
    (casts : List ActorSpec) (plans : List (ℕ × List Step)) (owners : List OwnerView) (ends : List EndView) →
    IsJoined casts plans owners ends →
    (a : ℕ) (start : S) → OpensAt step written casts a start → holds [] start →
    EndKeeps step written holds (OwnAt (behaves step written start)) (end_of a ends)
