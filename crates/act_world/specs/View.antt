-- What contracts see of a world.
use Rattle.std.specs.Prelude.{ℕ, List, map, slice_get, Option, Some, None}
use Rattle.act_types.specs.KindState.{KindState}
use Rattle.act_actor.specs.View.{ActorView, DeadView, RetiredView}
use Rattle.act_actor.specs.StateViews.{live_view, retired_view}
use Rattle.act_world.specs.declared.slot.Slot.{Slot}
use Rattle.act_world.specs.declared.slot.Slot.TheVariants as slot
use Rattle.act_world.specs.declared.slot.Stage.{Stage}
use Rattle.act_world.specs.declared.slot.Stage.TheVariants as stage
pub use Rattle.act_world.specs.Network.{NetworkView, is_owner}

-- an actor in one of its states
pub data SlotView : Type 0 where
  Runs : (live : ActorView) → SlotView
  Died : (dead : DeadView) → SlotView
  Ended : (retired : RetiredView) → SlotView
  Vacant : SlotView

abbrev pub slot_view : {K : Type 0} → (K → KindState) → Slot K → SlotView
slot_view state (slot.Live live) = Runs (live_view state live)
slot_view state (slot.Dead dead) = Died dead
slot_view state (slot.Retired retired) = Ended (retired_view state retired)
slot_view state slot.Vacant = Vacant

abbrev pub stage_view : {K : Type 0} → (K → KindState) → Stage K → SlotView
stage_view state (stage.Live live) = Runs (live_view state live.now)
stage_view state (stage.Dead dead) = Died dead.now
stage_view state (stage.Retired retired) = Ended (retired_view state retired.now)

-- a world: its callers with what is on its way, and its actors by their numbers, each in a slot
pub record WorldOf (S : Type 0) : Type 0 where
  pub network : NetworkView
  pub slots : List S

abbrev pub WorldView : Type 0
WorldView = WorldOf SlotView

-- a network beside these slots
abbrev pub with_slots : {S : Type 0} → List S → NetworkView → WorldOf S
with_slots slots network = record { network = network; slots = slots }

abbrev pub world_view : {K : Type 0} → (K → KindState) → WorldOf (Slot K) → WorldView
world_view state world = record { network = world.network; slots = map (slot_view state) world.slots }

-- the state that an actor is in, where there is such an actor
abbrev pub stage_of_slot : Option SlotView → Option SlotView
stage_of_slot None = None
stage_of_slot (Some Vacant) = None
stage_of_slot (Some slot) = Some slot

abbrev pub stage_in : WorldView → ℕ → Option SlotView
stage_in world a = stage_of_slot (slice_get world.slots a)
