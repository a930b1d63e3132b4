use Rattle.act_decisions.proofs.Common.{◌≡◌, length, lines_told}
use Rattle.act_decisions.proofs.agreed.next_line.Given as goal

-- the lines so far are skipped
abbrev pub invariant-loop-left : goal.invariant-loop-left
invariant-loop-left l = lines_told l.bytes ≡ lines_told l.left

abbrev pub decreases-loop-left : goal.decreases-loop-left
decreases-loop-left l = length l.left
