use Rattle.act_compare.proofs.Calls.{AreSameBelow}
use Rattle.act_compare.proofs.same.same_owner.Given as goal

abbrev pub invariant-loop-number : goal.invariant-loop-number
invariant-loop-number l = AreSameBelow l.number l.one l.other
