-- Who takes part in a run of threads, and which plan would be refused.
use Rattle.std.specs.Prelude.{ℕ, ◌==◌, List, [], map, filter, filter_map, find, slice_get, Option, Some, None, option_map}
use Rattle.std.specs.List.{list_any}
use Rattle.act_types.specs.declared.limits.TheConstants.{MAX_ACTORS, MAX_CALLERS}
use Rattle.act_rules.specs.declared.script.Step.{Step}
use Rattle.act_rules.specs.History.{ActorSpec, contains, actors_naming}
use Rattle.act_rules.specs.Plans.{first_bad}
use Rattle.act_rules.specs.Report.{one_to}

-- the callers that some cast names, by rising number
abbrev pub callers_of_casts : List ActorSpec → List ℕ
callers_of_casts casts = filter (λ c. list_any (λ cast. contains c cast.callers) casts) (one_to MAX_CALLERS)

-- the actors that have a cast, by rising number
abbrev pub actors_of_casts : List ActorSpec → List ℕ
actors_of_casts casts = filter (λ a. list_any (λ cast. cast.actor == a) casts) (one_to MAX_ACTORS)

-- the cast of an actor
abbrev pub cast_at : ℕ → List ActorSpec → Option ActorSpec
cast_at a casts = find (λ cast. cast.actor == a) casts

-- the actors whose casts name the caller, each with its limit
abbrev pub limits_naming : ℕ → List ActorSpec → List (ℕ × Option ℕ)
limits_naming c casts = map (λ cast. (cast.actor, cast.pending)) (filter (λ cast. contains c cast.callers) casts)

-- the steps of a plan that is there, and else none
abbrev pub steps_of_plan : Option (ℕ × List Step) → List Step
steps_of_plan None = []
steps_of_plan (Some plan) = plan.1

-- the plan of a caller, which is empty where none is given
abbrev pub plan_of : ℕ → List (ℕ × List Step) → List Step
plan_of c plans = steps_of_plan (find (λ plan. plan.0 == c) plans)

-- the place of the first step of a caller's plan that would be refused
abbrev pub bad_step_of : List ActorSpec → List (ℕ × List Step) → ℕ → Option (ℕ × ℕ)
bad_step_of casts plans c = option_map (λ place. (c, place)) (first_bad (actors_naming c casts) (plan_of c plans))

-- the first such step of all plans, callers by rising number
abbrev pub first_bad_plan : List ActorSpec → List (ℕ × List Step) → Option (ℕ × ℕ)
first_bad_plan casts plans = slice_get (filter_map (bad_step_of casts plans) (callers_of_casts casts)) 0
