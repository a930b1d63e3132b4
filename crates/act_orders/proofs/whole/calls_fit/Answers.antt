use Rattle.act_orders.proofs.Common.{below_more, CallFits}
use Rattle.act_orders.proofs.whole.calls_fit.Goals as goal

pub loop-place-preserved : goal.loop-place-preserved
loop-place-preserved c = below_more (CallFits c.args.told.now) _ c.loop-place.invariant (c.call_fits.ensures.0 c.if-not-call_fits.false)
