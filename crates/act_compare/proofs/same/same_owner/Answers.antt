use Rattle.std.proofs.Common.{arith}
use Rattle.act_compare.proofs.Calls.{below_more}
use Rattle.act_compare.proofs.same.same_owner.Goals as goal

pub loop-number-preserved : goal.loop-number-preserved
loop-number-preserved c =
    below_more c.new.result c.new.ensures (omega arith) (omega arith) (c.same_future.ensures.0 c.if-not-same_future.false) c.loop-number.invariant
