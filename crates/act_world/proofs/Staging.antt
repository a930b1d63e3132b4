-- Where an actor's slot stands.
use Rattle.act_world.proofs.Common.{ℕ, Some, None, Option, History, SlotView, Vacant, stage_of_slot, IsStage}

-- the state that is shown of a slot is where the history says
pub stage_shown : (h : History) (a : ℕ) (slot : Option SlotView) → IsStage h a slot → IsStage h a (stage_of_slot slot)
stage_shown h a None is = is
stage_shown h a (Some Vacant) is = is
stage_shown h a (Some view) is = is
