use Rattle.act_plans.proofs.Common.{◌≢◌, ℕ, true≢false, sym, ◌∙◌, refl, Vec, Step, differ_more, differ_not, pairs_all}
use Rattle.act_plans.proofs.plan_checker.callers_differ.Goals as goal

pub returns-then-has_plan : goal.returns-then-has_plan
returns-then-has_plan c = (
  λ same. absurd (true≢false (sym same)),
  λ differ. absurd (differ_not (λ (plan : ℕ × Vec Step). plan.0) c.args.plans.now c.loop-place-test.true
      c.index-plans-place.is (sym c.has_plan.ensures ∙ c.if-has_plan.true) differ),
)

pub loop-place-preserved : goal.loop-place-preserved
loop-place-preserved c =
    differ_more (λ (plan : ℕ × Vec Step). plan.0) c.args.plans.now c.loop-place-test.true
    c.index-plans-place.is c.loop-place.invariant (sym c.has_plan.ensures ∙ c.if-has_plan.false)

pub returns : goal.returns
returns c = (λ _. pairs_all (λ (one other : ℕ × Vec Step). one.0 ≢ other.0) c.args.plans.now c.loop-place-test.false c.loop-place.invariant, λ _. refl)
