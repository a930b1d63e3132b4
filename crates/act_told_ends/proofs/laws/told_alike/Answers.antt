use Rattle.act_told_ends.proofs.Retiring.{told_alike}
use Rattle.act_told_ends.proofs.laws.told_alike.Goals as goal

pub returns : goal.returns
returns _ told one other casts first retired second gone = told_alike told one other casts first retired second gone
