use Rattle.act_plans.proofs.Common.{arith, refl, sym, ◌∙◌}
use Rattle.act_plans.proofs.Refusals.{submit_on}
use Rattle.act_plans.proofs.plan_checker.PlanChecker.submits.Goals as goal

pub returns : goal.returns
returns c =
    λ method. submit_on c.args.actor method c.args.args.now c.args.self.now _ (omega arith) (sym c.are_earlier.ensures ∙ c.if-not-are_earlier.false)
    c.number.ensures.value (sym c.is_err.ensures.value ∙ c.if-is_err.false) c.number.ensures.ok c.number.ensures.counted refl
