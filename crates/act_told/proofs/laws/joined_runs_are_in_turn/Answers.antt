use Rattle.act_told.proofs.Turning.{in_turn}
use Rattle.act_told.proofs.laws.joined_runs_are_in_turn.Goals as goal

pub returns : goal.returns
returns _ casts plans owners ends joined i run at = in_turn casts plans owners ends joined i run at
