use Rattle.act_decisions.proofs.Common.{IsReadable}
use Rattle.act_decisions.proofs.Calls.{each, each_more}
use Rattle.act_decisions.proofs.agreed.are_readable.Goals as goal

pub loop-arg-preserved : goal.loop-arg-preserved
loop-arg-preserved c =
    each_more IsReadable c.args.args.now
    c.loop-arg-test.true c.arg-item.is c.is_readable.ensures c.if-not-is_readable.false c.loop-arg.invariant

pub returns : goal.returns
returns c = λ holds. each IsReadable c.args.args.now c.loop-arg.arg-index c.loop-arg-test.false c.loop-arg.invariant
