use Rattle.act_early.proofs.Accepted.{accepted_play}
use Rattle.act_early.proofs.laws.plays_are_accepted.Goals as goal

pub returns : goal.returns
returns _ casts plans at play = accepted_play casts plans at play
