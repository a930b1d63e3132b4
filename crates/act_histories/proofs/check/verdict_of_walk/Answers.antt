use Rattle.act_histories.proofs.Common.{script_of}
use Rattle.act_histories.proofs.check.verdict_of_walk.Goals as goal

pub returns-in_ok-mistake_of-in-BadStep : goal.returns-in_ok-mistake_of-in-BadStep
returns-in_ok-mistake_of-in-BadStep g c =
    c.in_ok-mistake_of-in-BadStep.ensures.of_script (script_of c.args.roles.now c.args.lines.steps.now) c.args.lines.rest.now

pub returns-in_ok-mistake_of-in-Open : goal.returns-in_ok-mistake_of-in-Open
returns-in_ok-mistake_of-in-Open g c = c.in_ok-mistake_of-in-Open.ensures.of_script (script_of c.args.roles.now c.args.lines.steps.now) c.args.lines.rest.now
