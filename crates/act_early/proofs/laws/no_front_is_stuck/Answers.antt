use Rattle.act_early.proofs.Stuck.{no_front_is_stuck}
use Rattle.act_early.proofs.laws.no_front_is_stuck.Goals as goal

pub returns : goal.returns
returns _ casts plans early late goes quiescent is f = no_front_is_stuck casts plans early late goes quiescent is f
