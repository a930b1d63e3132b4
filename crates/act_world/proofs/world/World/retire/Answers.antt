use Rattle.act_world.proofs.Common.{◌<◌, length, arith, slot_view}
use Rattle.act_world.proofs.Retiring.{retire_view}
use Rattle.act_world.proofs.Stepping.{in_slot}
use Rattle.act_world.proofs.world.World.retire.Goals as goal

pub returns : goal.returns
returns g c =
    let within : c.slot_of.result < length c.self.inside.slots = omega arith in
    rw (← c.self.view_is) (in_slot g.K.Actor.state _ c.self.inside.network c.self.inside.slots c.slot_of.result c.index-self-slot_of.result c.retire_in.new.slot
    c.retire_in.result c.retire_in.ensures.told c.retire_in.ensures.refused
    (retire_view (slot_view g.K.Actor.state) c.self.inside.network c.self.inside.slots c.args.a c.retire_in.new.slot c.retire_in.result
    c.slot_of.ensures.value within c.index-self-slot_of.is c.retire_in.ensures.retired))
