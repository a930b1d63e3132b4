use Rattle.act_told.proofs.Ending.{ends_right}
use Rattle.act_told.proofs.laws.joined_runs_end_right.Goals as goal

pub returns : goal.returns
returns _ casts plans owners ends joined n lt = ends_right casts plans owners ends joined n lt
