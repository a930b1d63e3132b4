use Rattle.act_told_ends.proofs.Stepped.{is_one, goes_on, refutes}
use Rattle.act_told_ends.proofs.laws.each_walk_goes_on.Goals as goal

pub returns-clause-is : goal.returns-clause-is
returns-clause-is _ casts bound told events done h ends walked = is_one casts bound told events done h ends walked

pub returns-clause-goes : goal.returns-clause-goes
returns-clause-goes _ casts bound told events done h ends walked = goes_on casts bound told events done h ends walked

pub returns-clause-stuck : goal.returns-clause-stuck
returns-clause-stuck _ casts bound told done h walked not_through stuck events ends = refutes casts bound told done h walked not_through stuck events ends
