use Rattle.act_histories.proofs.Common.{length}
use Rattle.act_histories.proofs.Cutting.{IsLeft}
use Rattle.act_histories.proofs.cut.cut_of.Given as goal

-- the part that is looked for is in what is left
abbrev pub invariant-loop-left : goal.invariant-loop-left
invariant-loop-left l = IsLeft l.bytes l.left

abbrev pub decreases-loop-left : goal.decreases-loop-left
decreases-loop-left l = length l.left
