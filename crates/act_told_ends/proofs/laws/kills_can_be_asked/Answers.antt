use Rattle.act_told_ends.proofs.Asked.{can_ask}
use Rattle.act_told_ends.proofs.laws.kills_can_be_asked.Goals as goal

pub returns : goal.returns
returns _ casts bound told done h c a steps differ are walk is good next = can_ask casts done h c a steps differ are walk is good next
