use Rattle.act_order_plays.proofs.InOrder.{in_order}
use Rattle.act_order_plays.proofs.laws.plays_are_in_order.Goals as goal

pub returns : goal.returns
returns _ = in_order
