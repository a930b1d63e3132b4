use Rattle.act_plans.proofs.Common.{true≢false, sym, ◌∙◌, list_all-from_AllPass}
use Rattle.act_plans.proofs.plan_checker.plans_fit.Goals as goal
use Rattle.act_plans.proofs.plan_checker.plans_fit.Goals.{then-callers_differ, else-callers_differ}

pub returns-else-are_named : goal.returns-else-are_named
returns-else-are_named g c = (
  λ same. absurd (true≢false (sym same ∙ c.if-are_named.false)),
  λ fits. absurd (elim c.if-callers_differ.branch [
    | then-callers_differ w ↦ true≢false
        (sym (list_all-from_AllPass _ c.args.plans.now fits.named) ∙ sym w.are_named.ensures ∙ sym w.value-is ∙ c.if-are_named.false)
    | else-callers_differ w ↦ true≢false (sym (c.callers_differ.ensures.1 fits.differ) ∙ w.if-callers_differ.false)
  ]),
)
