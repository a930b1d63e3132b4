-- The parts of the callers in a run, and the casts that they fit.
use Rattle.std.specs.Prelude.{◌≡◌, ◌≢◌, ℕ, ◌<◌, ◌==◌, ◌&&◌, true, List, length, map, Some, All, AllPairs, Contains}
use Rattle.std.specs.List.{list_any}
use Rattle.std.specs.Global.{Vec}
use Rattle.act_rules.specs.declared.script.Step.{Step}
use Rattle.act_rules.specs.History.{contains}
use Rattle.act_actor.specs.declared.cast.Cast.{Cast}
use Rattle.act_actor.specs.Cast.{ActorsDiffer, CallersDiffer}
use Rattle.act_plans.specs.declared.rising.CallerSetup.{CallerSetup}

-- a plan has fewer steps than this
abbrev pub most_steps : ℕ
most_steps = 4294967296

-- the plans' callers differ, each is named by a cast, and no plan is too long
pub record PlansFit {K : Type 0} (casts : List (Cast K)) (plans : List (ℕ × Vec Step)) : Type 0 where
  pub differ : AllPairs (λ one other. one.0 ≢ other.0) plans
  pub named : All (λ plan. list_any (λ cast. contains plan.0 cast.callers) casts ≡ true) plans
  pub short : All (λ plan. length plan.1.items < most_steps) plans

-- a part's limits are of its actors, in their order, and none refuses every call
pub record HasLimits (setup : CallerSetup) : Type 0 where
  pub names : map (λ limit. limit.0) setup.limits.items ≡ setup.actors.items
  pub above : All (λ limit. limit.1 ≢ Some 0) setup.limits.items

-- each caller that a cast names has one part, which knows the actors whose casts name it
pub record AreMatched {K : Type 0} (casts : List (Cast K)) (setups : List CallerSetup) : Type 0 where
  pub actors_differ : ActorsDiffer casts
  pub callers_differ : All (λ cast. CallersDiffer cast.callers) casts
  pub setups_differ : AllPairs (λ one other. one.caller ≢ other.caller) setups
  pub taking_setup : All (λ cast. All (λ c. Contains (map (λ setup. setup.caller) setups) c) cast.callers) casts
  pub own_differ : All (λ setup. CallersDiffer setup.actors.items) setups
  pub known : All (λ setup. (a : ℕ) → contains a setup.actors.items ≡ list_any (λ cast. (cast.actor == a) && contains setup.caller cast.callers) casts) setups
