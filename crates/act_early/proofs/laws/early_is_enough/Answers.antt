use Rattle.act_early.proofs.Common.{Contains}
use Rattle.act_early.proofs.Ending.{enough}
use Rattle.act_early.proofs.laws.early_is_enough.Goals as goal

pub returns : goal.returns
returns _ casts plans may_lose seen late search is ended losing = enough casts plans may_lose (Contains seen) late search is ended losing
