use Rattle.act_decisions.proofs.Common.{◌≡◌, Some, arith, caller_in, ToldCaller, FitsSteps}
use Rattle.act_decisions.proofs.Fitting.{one_further}
use Rattle.act_decisions.proofs.fits.all_fit_steps.Goals as goal

pub loop-before-preserved : goal.loop-before-preserved
loop-before-preserved c =
    one_further (λ d. (caller : ToldCaller) × (caller_in c.args.end.now d ≡ Some caller) × FitsSteps d c.args.steps.now caller) c.loop-before.before
    c.loop-before.invariant (c.fits_steps_at.ensures c.if-not-fits_steps_at.false)

pub returns : goal.returns
returns c = λ _ d from upto. c.loop-before.invariant d from (omega (arith, c.loop-before-test.false))
