use Rattle.act_world.proofs.Common.{◌≡◌, ◌<◌, List, length, map, Some, subst, arith, ◌==◌, if◌then◌else◌, slice_get, slice_set, slot_view}
use Rattle.act_world.proofs.OpenedSlots.{set_map}
use Rattle.act_world.proofs.world.fill_slot.Goals as goal

pub returns : goal.returns
returns g c = λ b.
    let within : c.slot_of.result < length c.args.slots.now = omega arith in
    let slots : List _ = slice_set c.args.slots.now c.slot_of.result c.put.new.slot in
    subst (λ s. slice_get (map (slot_view g.K.Actor.state) slots) b ≡
    (if c.args.a == b then Some (slot_view g.K.Actor.state s) else slice_get (map (slot_view g.K.Actor.state) c.args.slots.now) b))
    c.put.ensures
    (subst (λ a. slice_get (map (slot_view g.K.Actor.state) slots) b ≡
    (if a == b then Some (slot_view g.K.Actor.state c.put.new.slot) else slice_get (map (slot_view g.K.Actor.state) c.args.slots.now) b))
    c.slot_of.ensures.value (set_map (slot_view g.K.Actor.state) c.args.slots.now b c.put.new.slot within))
