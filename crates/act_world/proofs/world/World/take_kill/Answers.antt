use Rattle.act_world.proofs.Common.{◌<◌, length, arith, slot_view}
use Rattle.act_world.proofs.Killing.{kill_view}
use Rattle.act_world.proofs.Stepping.{in_slot}
use Rattle.act_world.proofs.world.World.take_kill.Goals as goal

pub returns : goal.returns
returns g c =
    let within : c.slot_of.result < length c.self.inside.slots = omega arith in
    rw (← c.self.view_is) (in_slot g.K.Actor.state _ c.self.inside.network c.self.inside.slots c.slot_of.result c.index-self-slot_of.result c.kill_in.new.slot
    c.kill_in.result c.kill_in.ensures.told c.kill_in.ensures.refused (kill_view (slot_view g.K.Actor.state) c.self.inside.network c.self.inside.slots
    c.args.a c.kill_in.new.slot c.slot_of.ensures.value within c.index-self-slot_of.is c.is_asked-asked.ensures c.kill_in.ensures.killed))
