use Rattle.act_decisions.proofs.Calls.{front_goes_on}
use Rattle.act_decisions.proofs.fits.are_calls_of.Goals as goal

pub loop-step-preserved : goal.loop-step-preserved
loop-step-preserved c =
    front_goes_on c.args.c c.args.steps.now c.loop-step-test.true c.step-item.is (c.in-Some.ensures c.step-item.result.2) c.loop-step.invariant
