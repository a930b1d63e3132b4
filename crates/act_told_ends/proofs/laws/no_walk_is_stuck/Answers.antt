use Rattle.act_told_ends.proofs.Through.{never_stuck}
use Rattle.act_told_ends.proofs.laws.no_walk_is_stuck.Goals as goal

pub returns : goal.returns
returns _ casts bound told done events walk ends is = never_stuck casts bound told done events walk ends is
