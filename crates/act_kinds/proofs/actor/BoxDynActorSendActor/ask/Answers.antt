use Rattle.act_kinds.proofs.Common.{rules}
use Rattle.act_kinds.proofs.Boxes.{back_on_err}
use Rattle.act_kinds.proofs.actor.BoxDynActorSendActor.ask.Goals as goal

pub returns-clause-err : goal.returns-clause-err
returns-clause-err g c = back_on_err c.args.self.now _ _ c.ask.new.self c.ask.result (search rules) c.ask.ensures.1.1.0
