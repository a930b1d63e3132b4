use Rattle.act_summaries.proofs.Alike.{read_one_way}
use Rattle.act_summaries.proofs.laws.lines_are_read_one_way.Goals as goal

pub returns : goal.returns
returns _ = read_one_way
