-- Casts and plans that fit, as a run asks, are such as the law speaks of.
use Rattle.act_thread_ends.proofs.Common.{◌≡◌, ℕ, true, List, map, ◌∙◌, All, Contains, list_any, All-map, All-weaker, MAX_ACTORS, MAX_CALLERS, Step, ActorSpec}
use Rattle.act_thread_ends.proofs.Common.{contains, one_to, AreOfARun}
use Rattle.std.specs.Global.{Vec}
use Rattle.act_types.specs.KindState.{KindState}
use Rattle.act_rules.proofs.Lists.{list_any-map}
use Rattle.act_actor.specs.declared.cast.Cast.{Cast}
use Rattle.act_actor.specs.Casts.{actor_spec}
use Rattle.act_plans.specs.Prepared.{HasNumbers}
use Rattle.act_plans.specs.Setups.{PlansFit}
use Rattle.act_executor.specs.Runs.{plan_view}

-- casts and plans that fit are those of a run, where the casts' numbers are within the limits
pub of_a_run : {K : Type 0} (state : K → KindState) {casts : List (Cast K)} {plans : List (ℕ × Vec Step)} → All HasNumbers casts → PlansFit casts plans
    → AreOfARun (map (actor_spec state) casts) (map plan_view plans)
of_a_run {K = K} state {casts} {plans} numbers fit = record {
  actors = All-map (λ (cast : ActorSpec). Contains (one_to MAX_ACTORS) cast.actor) (actor_spec state) casts (λ k d lt. (numbers k d lt).actor);
  callers = All-map (λ (cast : ActorSpec). All (λ c. Contains (one_to MAX_CALLERS) c) cast.callers) (actor_spec state) casts
      (λ k d lt. (numbers k d lt).callers);
  named = All-map (λ (plan : ℕ × List Step). list_any (λ (cast : ActorSpec). contains plan.0 cast.callers) (map (actor_spec state) casts) ≡ true) plan_view
      plans (All-weaker (λ (plan : ℕ × Vec Step). list_any (λ (cast : Cast K). contains plan.0 cast.callers) casts ≡ true)
      (λ (plan : ℕ × Vec Step). list_any (λ (cast : ActorSpec). contains plan.0 cast.callers) (map (actor_spec state) casts) ≡ true)
      (λ plan is. list_any-map (λ (cast : ActorSpec). contains plan.0 cast.callers) (actor_spec state) casts ∙ is) plans fit.named);
}
