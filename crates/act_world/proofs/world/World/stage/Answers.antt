use Rattle.act_world.proofs.Common.{◌∙◌, subst, sym, ap, history, stage_of_slot, IsStage}
use Rattle.act_world.proofs.Staging.{stage_shown}
use Rattle.act_world.proofs.world.World.stage.Goals as goal

pub returns-clause-shown : goal.returns-clause-shown
returns-clause-shown g c = rw (← c.self.view_is) (c.stage.ensures ∙ ap stage_of_slot (sym c.slot_at.ensures))

pub returns-clause-reached : goal.returns-clause-reached
returns-clause-reached g c = rw (← c.self.view_is) (λ casts events reached. subst (IsStage (history casts events) c.args.a)
    (ap stage_of_slot c.slot_at.ensures ∙ sym c.stage.ensures) (stage_shown (history casts events) c.args.a _ (reached.actors c.args.a)))
