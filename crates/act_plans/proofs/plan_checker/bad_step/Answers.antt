use Rattle.act_plans.proofs.Common.{refl}
use Rattle.act_plans.proofs.Refusals.{begins, passes}
use Rattle.act_plans.proofs.plan_checker.bad_step.Goals as goal

pub loop-place-init : goal.loop-place-init
loop-place-init c = begins c.args.actors.now c.args.plan.now _ c.in_ok-open.ensures refl

pub loop-place-preserved : goal.loop-place-preserved
loop-place-preserved c =
    passes c.args.actors.now c.args.plan.now c.loop-place.place c.index-plan-place.result c.accepts.result c.loop-place.plan_checker c.accepts.new.self
    c.loop-place-test.true c.index-plan-place.is c.loop-place.invariant c.accepts.ensures
    c.if-not-accepts.false
