use Rattle.act_told_ends.proofs.Bridge.{end_told}
use Rattle.act_told_ends.proofs.laws.each_end_is_told.Goals as goal

pub returns : goal.returns
returns _ casts events accepted = end_told casts events accepted
