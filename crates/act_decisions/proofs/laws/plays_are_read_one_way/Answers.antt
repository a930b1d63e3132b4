use Rattle.act_decisions.proofs.OneWay.{read_plays}
use Rattle.act_decisions.proofs.laws.plays_are_read_one_way.Goals as goal

pub returns : goal.returns
returns _ = read_plays
