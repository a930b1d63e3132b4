use Rattle.std.proofs.Common.{take, All, IsOk}
use Rattle.act_compare.proofs.played.are_accepted.Given as goal

abbrev pub invariant-loop-outcome : goal.invariant-loop-outcome
invariant-loop-outcome l = All IsOk (take l.outcome-index l.told)
