use Rattle.act_world.proofs.Common.{◌∙◌}
use Rattle.act_world.proofs.Delivering.{brought_step, no_letter_step}
use Rattle.act_world.proofs.world.World.deliver.Goals as goal

pub returns-in_default : goal.returns-in_default
returns-in_default g c = rw (← c.self.view_is) (no_letter_step g.K.Actor.state c.self.inside.network c.self.inside.slots c.args.i c.in_default.ensures)

pub returns : goal.returns
returns g c = rw (← c.self.view_is) (brought_step g.K.Actor.state c.self.inside.network c.self.inside.slots c.args.i c.bring.new.slot c.bring.result
    c.in-Some.ensures (c.slot_of.ensures.value ∙ c.actor.ensures) c.index-slots-slot_of.is
    c.bring.ensures.ok c.bring.ensures.told c.bring.ensures.refused c.bring.ensures.memory_last c.bring.ensures.err)
