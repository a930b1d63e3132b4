use Rattle.act_plans.proofs.Common.{refl}
use Rattle.act_plans.proofs.Refusals.{copy_on, release_on}
use Rattle.act_plans.proofs.plan_checker.PlanChecker.accepts.Goals as goal

pub returns-in-Copy : goal.returns-in-Copy
returns-in-Copy c = rw (c.is_ok.ensures.value, c.in-Copy.is) (copy_on c.in-Copy.actor c.args.self.now _ c.copy.ensures.value c.copy.ensures.ok refl)

pub returns-in-Release : goal.returns-in-Release
returns-in-Release c =
    rw (c.is_ok-in-Release.ensures.value, c.in-Release.is) (release_on c.in-Release.actor c.args.self.now _ c.release.ensures.value c.release.ensures.ok refl)
