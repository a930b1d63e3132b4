-- When plans suit casts.
use Rattle.std.specs.Prelude.{◌≡◌, ◌≢◌, ℕ, ◌<◌, true, List, length, All, AllPairs}
use Rattle.std.specs.List.{list_any}
use Rattle.std.specs.Global.{Vec}
use Rattle.act_rules.specs.declared.script.Step.{Step}
use Rattle.act_rules.specs.History.{ActorSpec, contains}
use Rattle.act_plans.specs.Setups.{most_steps}

-- the plans' callers differ, each is named by a cast, and no plan is too long
pub record AreSuited (casts : List ActorSpec) (plans : List (ℕ × Vec Step)) : Type 0 where
  pub differ : AllPairs (λ one other. one.0 ≢ other.0) plans
  pub named : All (λ plan. list_any (λ cast. contains plan.0 cast.callers) casts ≡ true) plans
  pub short : All (λ plan. length plan.1.items < most_steps) plans
