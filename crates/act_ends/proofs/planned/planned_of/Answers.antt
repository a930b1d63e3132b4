use Rattle.act_ends.proofs.Common.{refl}
use Rattle.act_ends.proofs.Scripted.{planned_as}
use Rattle.act_ends.proofs.planned.planned_of.Goals as goal

pub returns : goal.returns
returns c =
    planned_as c.args.script _ c.in-Steps.is c.as_slice.ensures c.in_ok-plans.ensures c.new.ensures
    refl
