use Rattle.act_plans.proofs.Numbers.{in_one_to}
use Rattle.act_explore.proofs.key.know_actor.Goals as goal

pub returns : goal.returns
returns c = in_one_to 8 c.number.ensures.valid.0 c.number.ensures.valid.1
