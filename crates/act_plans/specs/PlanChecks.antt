-- What is known of the steps of a plan that were looked at.
use Rattle.std.specs.Prelude.{◌≡◌, ℕ, Bool, true, not, List, length}
use Rattle.act_rules.specs.declared.script.Step.{Step}
use Rattle.act_rules.specs.Plans.{Progress, holds, is_refused, do_step}
use Rattle.act_handles.specs.Handles.{copies_in, given_of_all}
use Rattle.act_plans.specs.declared.plan_checker.PlanChecker.{PlanChecker}

-- the draft knows the calls and the copies of a caller that did this
pub record IsAfter (actors : List ℕ) (p : Progress) (plan_checker : PlanChecker) : Type 0 where
  pub count : plan_checker.count ≡ length p.submitted
  pub given : given_of_all plan_checker.handles ≡ length p.submitted
  pub copies : (a : ℕ) → copies_in a plan_checker.handles ≡ holds a actors p

-- whether a step is accepted, and the draft after it
pub record ChecksStep (accepted : Bool) (step : Step) (old new : PlanChecker) : Type 0 where
  pub told : (actors : List ℕ) (p : Progress) → IsAfter actors p old → accepted ≡ not (is_refused actors p step)
  pub after : (actors : List ℕ) (p : Progress) → IsAfter actors p old → accepted ≡ true → IsAfter actors (do_step p step) new
