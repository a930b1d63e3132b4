use Rattle.std.proofs.Common.{arith, IsOk}
use Rattle.act_compare.proofs.Each.{each_more, not_each, each}
use Rattle.act_compare.proofs.played.are_accepted.Goals as goal

pub loop-outcome-preserved : goal.loop-outcome-preserved
loop-outcome-preserved c =
    each_more IsOk c.args.told.now c.loop-outcome-test.true c.outcome-item.is c.is_accepted.ensures c.if-not-is_accepted.false c.loop-outcome.invariant

pub returns-then-not-is_accepted : goal.returns-then-not-is_accepted
returns-then-not-is_accepted c = not_each IsOk c.args.told.now c.loop-outcome-test.true c.outcome-item.is c.is_accepted.ensures c.if-not-is_accepted.true

pub returns : goal.returns
returns c = each IsOk c.args.told.now c.loop-outcome.outcome-index (omega arith) c.loop-outcome.invariant
