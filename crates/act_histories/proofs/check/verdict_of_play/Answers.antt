use Rattle.act_histories.proofs.Common.{script_of}
use Rattle.act_histories.proofs.check.verdict_of_play.Goals as goal

pub returns : goal.returns
returns c = λ steps rest _. c.in_ok-mistake_of.ensures.of_script (script_of c.args.roles.now steps) rest
