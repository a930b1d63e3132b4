use Rattle.act_summaries.proofs.Filling.{told_alike}
use Rattle.act_summaries.proofs.laws.alike_ends_are_told_alike.Goals as goal

pub returns : goal.returns
returns _ = told_alike
