use Rattle.act_told_ends.proofs.Retiring.{retiring}
use Rattle.act_told_ends.proofs.laws.each_retires.Goals as goal

pub returns : goal.returns
returns _ casts bound told done events walk ends accepted through only = retiring casts bound told done events walk ends accepted through only
