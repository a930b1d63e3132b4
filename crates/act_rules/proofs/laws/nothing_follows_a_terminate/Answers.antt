use Rattle.act_rules.proofs.Common.{opening}
use Rattle.act_rules.proofs.Steps.{after_all_keeps}
use Rattle.act_rules.proofs.Ended.{NothingFollows, nothing_follows_step}
use Rattle.act_rules.proofs.laws.nothing_follows_a_terminate.Goals as goal

pub returns : goal.returns
returns _ casts events a = after_all_keeps NothingFollows nothing_follows_step (opening casts) events (λ b place ends. cc) a
