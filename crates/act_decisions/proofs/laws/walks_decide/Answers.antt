use Rattle.act_decisions.proofs.Refuted.{walks_decide, none_misplaced}
use Rattle.act_decisions.proofs.laws.walks_decide.Goals as goal

pub returns-clause-walk : goal.returns-clause-walk
returns-clause-walk _ = walks_decide

pub returns-clause-runs : goal.returns-clause-runs
returns-clause-runs _ = none_misplaced
