use Rattle.act_histories.proofs.Common.{script_of}
use Rattle.act_histories.proofs.check.verdict_of_end.Goals as goal

pub returns-in_ok-mistake_of-in-Err-Stuck : goal.returns-in_ok-mistake_of-in-Err-Stuck
returns-in_ok-mistake_of-in-Err-Stuck g c =
    c.in_ok-mistake_of-in-Err-Stuck.ensures.of_script (script_of c.args.roles.now c.args.lines.steps.now) c.args.lines.rest.now
