use Rattle.act_serve.proofs.Serving.{replied}
use Rattle.act_serve.proofs.turn.run_next.Goals as goal

pub returns-clause-ran : goal.returns-clause-ran
returns-clause-ran g c = replied g.K.Actor.state c.args.caller c.args.live.now c.run.new.self c.run.result c.run.ensures.reply c.run.ensures.ran
