use Rattle.act_decisions.proofs.misplaced.has_misplaced.Given as goal

abbrev pub invariant-loop-a : goal.invariant-loop-a
invariant-loop-a l = Unit {0}
