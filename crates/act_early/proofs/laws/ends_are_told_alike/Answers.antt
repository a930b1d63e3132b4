use Rattle.act_early.proofs.Told.{same_told, alike_told}
use Rattle.act_early.proofs.laws.ends_are_told_alike.Goals as goal

pub returns-clause-same : goal.returns-clause-same
returns-clause-same _ one other casts same = same_told one other casts same

pub returns-clause-alike : goal.returns-clause-alike
returns-clause-alike _ casts plans early late play goes ended ends = alike_told casts late play goes ended ends
