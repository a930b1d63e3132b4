use Rattle.act_told_ends.proofs.Common.{with_calls}
use Rattle.act_told_ends.proofs.Standing.{may_stand}
use Rattle.act_told_ends.proofs.Stepped.{refutes}
use Rattle.act_told_ends.proofs.laws.untold_may_be_as_run.Goals as goal

pub returns-clause-ends : goal.returns-clause-ends
returns-clause-ends _ casts bound told calls events ends stand = may_stand calls ends stand

pub returns-clause-stuck : goal.returns-clause-stuck
returns-clause-stuck _ casts bound told calls done h walked not_through stuck events ends stand =
    let others = may_stand calls ends stand in refutes casts bound (with_calls calls told) done h walked not_through stuck others.0 others.1
