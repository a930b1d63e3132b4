use Rattle.act_told_ends.proofs.Resting.{at_the_end, rest_refutes}
use Rattle.act_told_ends.proofs.laws.each_walk_rests.Goals as goal

pub returns-clause-ends : goal.returns-clause-ends
returns-clause-ends _ casts bound told events h ends rest = at_the_end ends rest

pub returns-clause-stuck : goal.returns-clause-stuck
returns-clause-stuck _ casts bound told h rest not_ended stuck events ends = rest_refutes casts bound told h rest not_ended stuck events ends
