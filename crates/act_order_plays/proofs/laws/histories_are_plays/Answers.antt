use Rattle.act_order_plays.proofs.Plays.{play_of}
use Rattle.act_order_plays.proofs.laws.histories_are_plays.Goals as goal

pub returns : goal.returns
returns _ = play_of
