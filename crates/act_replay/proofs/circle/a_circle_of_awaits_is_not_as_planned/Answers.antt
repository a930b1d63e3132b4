use Rattle.act_replay.proofs.Awaiting.{awaits_unplanned}
use Rattle.act_replay.proofs.circle.a_circle_of_awaits_is_not_as_planned.Goals as goal

pub returns : goal.returns
returns _ = awaits_unplanned
