use Rattle.act_drive.proofs.PlanSteps.{await_follows}
use Rattle.act_drive.proofs.Tracing.{traces_awaited}
use Rattle.act_drive.proofs.driver.Driver.wait_step.Goals as goal

pub returns-clause-follows : goal.returns-clause-follows
returns-clause-follows g c = await_follows c.args.lines.now _ c.args.k c.in_ok-wait_for.ensures.only_waits.waits

pub returns-clause-traced : goal.returns-clause-traced
returns-clause-traced g c =
    traces_awaited c.args.lines.now c.args.self.now _ c.args.k c.in_ok-wait_for.ensures.only_waits.traced c.in_ok-wait_for.ensures.answered
