use Rattle.act_world.proofs.Common.{◌≡◌, ◌<◌, length, map, Some, subst, arith, slice_get, slot_view}
use Rattle.act_world.proofs.Changes.{slot_within}
use Rattle.act_world.proofs.slot.slot_at.Goals as goal

pub returns : goal.returns
returns g c =
    let seen = slot_view g.K.Actor.state in let within : c.slot_of.result < length c.args.slots.now = omega arith in
    let here = slot_within seen c.args.slots.now within c.index-slots-slot_of.is in
    subst (λ slot. slice_get (map seen c.args.slots.now) c.args.a ≡ Some (seen slot)) c.index-slots-slot_of.is
    (subst (λ a. slice_get (map seen c.args.slots.now) a ≡ Some (seen c.index-slots-slot_of.result)) c.slot_of.ensures.value here)
