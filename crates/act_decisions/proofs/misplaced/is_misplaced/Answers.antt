use Rattle.act_decisions.proofs.Common.{rules, tests, OtherActor}
use Rattle.act_decisions.proofs.misplaced.is_misplaced.Goals as goal

pub returns-then-number-a : goal.returns-then-number-a
returns-then-number-a c = λ yes. OtherActor c.in-Some.call.now (search rules) (search (rules, tests))
