use Rattle.act_told_ends.proofs.LeftOpenAll.{may_be_replies}
use Rattle.act_told_ends.proofs.laws.deaths_may_be_replies.Goals as goal

pub returns : goal.returns
returns _ casts bound told kept events ends stand = may_be_replies casts kept events ends stand
