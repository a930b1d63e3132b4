use Rattle.act_summaries.proofs.AsTheyStand.{as_they_stand}
use Rattle.act_summaries.proofs.laws.lines_are_told_as_they_stand.Goals as goal

pub returns : goal.returns
returns _ = as_they_stand
