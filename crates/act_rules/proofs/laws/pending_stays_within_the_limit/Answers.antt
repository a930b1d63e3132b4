use Rattle.act_rules.proofs.Limits.{world_within}
use Rattle.act_rules.proofs.laws.pending_stays_within_the_limit.Goals as goal

pub returns : goal.returns
returns _ casts events c a limit is = world_within casts events c a limit is
