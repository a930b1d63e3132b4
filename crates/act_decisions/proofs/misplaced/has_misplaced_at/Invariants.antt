use Rattle.act_decisions.proofs.misplaced.has_misplaced_at.Given as goal

abbrev pub invariant-loop-p : goal.invariant-loop-p
invariant-loop-p l = Unit {0}
