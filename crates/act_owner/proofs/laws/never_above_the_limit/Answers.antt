use Rattle.act_owner.proofs.Common.{refl, arith, opened_under}
use Rattle.act_owner.proofs.Pending.{under_all}
use Rattle.act_owner.proofs.laws.never_above_the_limit.Goals as goal

pub returns : goal.returns
returns _ limits id actors actions a limit accepted set = under_all (opened_under limits id actors) a limit actions refl accepted (λ _. omega arith) set
