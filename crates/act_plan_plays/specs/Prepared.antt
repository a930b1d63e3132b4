-- What is prepared of a run, and the plans that it holds.
use Rattle.std.specs.Prelude.{◌≡◌, ℕ, List, map, All}
use Rattle.std.specs.Global.{Vec}
use Rattle.act_types.specs.KindState.{KindState}
use Rattle.act_rules.specs.declared.script.Step.{Step}
use Rattle.act_actor.specs.declared.cast.Cast.{Cast}
use Rattle.act_actor.specs.Casts.{actor_spec}
use Rattle.act_plans.specs.declared.rising.CallerSetup.{CallerSetup}
use Rattle.act_plans.specs.Setups.{PlansFit}
use Rattle.act_plans.specs.Prepared.{setup_view, setup_of, callers_named_by, HasNumbers}
use Rattle.act_plans.specs.Runs.{plan_of}
use Rattle.act_plan_plays.specs.Play.{HoldPlans}

-- each caller's plan, where plans are given as lists of steps
abbrev pub plans_given : List (ℕ × Vec Step) → ℕ → List Step
plans_given plans c = plan_of c (map (λ plan. (plan.0, plan.1.items)) plans)

-- the parts that `prepare` makes of casts and plans hold these plans
abbrev pub PreparedPlansHold : Type 0 → Type 0
PreparedPlansHold K = (state : K → KindState) (casts : List (Cast K)) (plans : List (ℕ × Vec Step))
    (setups : List CallerSetup) → PlansFit casts plans → All HasNumbers casts →
    map setup_view setups ≡ map (setup_of casts plans) (callers_named_by casts) →
    HoldPlans (map (actor_spec state) casts) (plans_given plans) setups
