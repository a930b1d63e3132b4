use Rattle.act_plan_plays.proofs.Prepared.{prepared_hold}
use Rattle.act_plan_plays.proofs.laws.prepared_plans_hold.Goals as goal

pub returns : goal.returns
returns g c = prepared_hold
