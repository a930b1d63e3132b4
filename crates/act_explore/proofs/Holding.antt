-- The parts that are prepared hold the plans.
use Rattle.act_explore.proofs.Common.{◌≡◌, ℕ, true, List, map, sym, ◌∙◌, subst, All, Contains, Vec, list_any, All-weaker, KindState, MAX_CALLERS, Step}
use Rattle.act_explore.proofs.Common.{ActorSpec, contains, one_to, list_any-map, Cast, actor_spec, CallerSetup, setup_view, setup_of, callers_named_by, plan_of}
use Rattle.act_explore.proofs.Common.{callers_of_casts, PlansFit, setups_view, plans_are, actors_are, HoldPlans, plan_view, IsIn, in_from_contains}
use Rattle.act_explore.proofs.Common.{contains_from_in, all_in, in_filter, any_is, contains_is, AreOfARun, is_named, no_plan, AreSuited}

-- a caller that a cast names is one of the callers
named_caller : {casts : List ActorSpec} {plans : List (ℕ × List Step)} → AreOfARun casts plans → (c : ℕ) → is_named casts c ≡ true
    → IsIn (callers_of_casts casts) c
named_caller {casts} of c named =
    let cast = any_is (λ (x : ActorSpec). contains c x.callers) casts named in
    let listed = all_in (λ (x : ActorSpec). All (λ d. Contains (one_to MAX_CALLERS) d) x.callers) of.callers cast.1.inside in
    let number = all_in (λ d. Contains (one_to MAX_CALLERS) d) listed (contains_is c cast.0.callers cast.1.passes) in
    in_filter (is_named casts) (in_from_contains (one_to MAX_CALLERS) c number) named

pub holding : {K : Type 0} (state : K → KindState) (casts : List (Cast K)) (plans : List (ℕ × Vec Step)) (setups : List CallerSetup)
    → map setup_view setups ≡ map (setup_of casts plans) (callers_named_by casts) → AreOfARun (map (actor_spec state) casts) (map plan_view plans)
    → HoldPlans (map (actor_spec state) casts) (λ c. plan_of c (map plan_view plans)) setups
holding state casts plans setups is of = record {
  parts = λ k d lt. record { plan = sym (plans_are state casts plans setups is k d lt); actors = actors_are state casts plans setups is k d lt };
  named = λ c named. contains_from_in (subst (λ l. IsIn l c) (sym (setups_view state casts plans setups is)) (named_caller of c named));
  others = λ c none. no_plan (map (actor_spec state) casts) c (map plan_view plans) of.named none;
}

-- plans that fit casts suit them, and the other way round
pub suited : {K : Type 0} (state : K → KindState) (casts : List (Cast K)) (plans : List (ℕ × Vec Step)) → PlansFit casts plans
    → AreSuited (map (actor_spec state) casts) plans
suited {K = K} state casts plans fit = record {
  differ = fit.differ;
  named = All-weaker (λ (plan : ℕ × Vec Step). list_any (λ (cast : Cast K). contains plan.0 cast.callers) casts ≡ true)
      (λ (plan : ℕ × Vec Step). list_any (λ (cast : ActorSpec). contains plan.0 cast.callers) (map (actor_spec state) casts) ≡ true)
      (λ plan is. list_any-map (λ (cast : ActorSpec). contains plan.0 cast.callers) (actor_spec state) casts ∙ is) plans fit.named;
  short = fit.short;
}

pub fits : {K : Type 0} (state : K → KindState) (casts : List (Cast K)) (plans : List (ℕ × Vec Step)) → AreSuited (map (actor_spec state) casts) plans
    → PlansFit casts plans
fits {K = K} state casts plans suit = record {
  differ = suit.differ;
  named = All-weaker (λ (plan : ℕ × Vec Step). list_any (λ (cast : ActorSpec). contains plan.0 cast.callers) (map (actor_spec state) casts) ≡ true)
      (λ (plan : ℕ × Vec Step). list_any (λ (cast : Cast K). contains plan.0 cast.callers) casts ≡ true)
      (λ plan is. sym (list_any-map (λ (cast : ActorSpec). contains plan.0 cast.callers) (actor_spec state) casts) ∙ is) plans suit.named;
  short = suit.short;
}
