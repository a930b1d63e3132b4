use Rattle.act_histories.proofs.Common.{spelled_script}
use Rattle.act_histories.proofs.check.verdict_of_script.Goals as goal

pub returns : goal.returns
returns g c = c.in_ok-mistake_of-in-Err-Line.ensures.of_script (spelled_script c.args.script) c.args.rest.now
