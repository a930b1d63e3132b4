use Rattle.act_world.proofs.Common.{◌<◌, length, refl, sym, arith}
use Rattle.act_world.proofs.Running.{run_refused, run_put}
use Rattle.act_world.proofs.Stepping.{refused}
use Rattle.act_world.proofs.world.World.run.Goals as goal

pub returns-in-Some : goal.returns-in-Some
returns-in-Some g c = rw (← c.self.view_is) (refused _ _ _ _ _ refl c.in-Some.ensures.told (run_refused _ _ c.args.a c.args.c (sym c.in-Some.ensures.refusal)))

pub returns : goal.returns
returns g c =
    let within : c.slot_of.result < length c.self.inside.slots = omega arith in
    let free = rw (← c.network.view_is) at c.in_default.ensures.refusal in
    rw (← c.self.view_is, ← c.network.view_is) (run_put g.K.Actor.state _ c.self.inside.slots c.args.a c.args.c c.index-slots-slot_of.result c.run_in.new.slot
    c.run_in.new.replies.items c.run_in.result c.slot_of.ensures.value
    (sym free) within c.run_in.ensures.ok c.run_in.ensures.refused c.run_in.ensures.memory_last c.run_in.ensures.err)
