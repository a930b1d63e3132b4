-- The prepared casts and parts, told of the actor specifications and the plans of a run.
use Rattle.act_plans.proofs.Common.{◌≡◌, ℕ, ◌==◌, List, [], ◌∷◌, map, Option, Some, None, refl, sym, ◌∙◌, ap, All, find, filter, filter_map, slice_get}
use Rattle.act_plans.proofs.Common.{option_map, list_any, cons_option, Vec, map-map, All-weaker, filter_agree, KindState, Step, first_bad, one_to, find-map}
use Rattle.act_plans.proofs.Common.{list_any-map, Cast, actor_spec, actors_that_name, limits_that_name, actors_naming-actor_spec, CallerSetup, Role, setup_view}
use Rattle.act_plans.proofs.Common.{setup_of, plan_in, steps_given, bad_of_setup, filter_mapped, ActorSpec, contains, naming_view}
use Rattle.act_plans.specs.Prepared.{by_rising_actor, callers_named_by}
use Rattle.act_plans.specs.Runs.{limits_naming as limits_view, callers_of_casts, actors_of_casts, cast_at, steps_of_plan, plan_of, bad_step_of, first_bad_plan}
use Rattle.act_plans.proofs.Keys.{each_first}
use Rattle.act_plans.proofs.Matching.{actors_rising, callers_are, roles_are}

-- ---- lists that are mapped

filter_map_map : {X Y Z : Type 0} (h : Y → Option Z) (f : X → Y) (xs : List X) → filter_map h (map f xs) ≡ filter_map (λ x. h (f x)) xs
filter_map_map h f [] = refl
filter_map_map h f (x ∷ xs) = ap (λ l. cons_option (h (f x)) l) (filter_map_map h f xs)

-- ---- casts and their actor specifications

module _ {K : Type 0} (state : K → KindState) (casts : List (Cast K)) where
  -- the same callers
  pub callers_view : callers_of_casts (map (actor_spec state) casts) ≡ callers_named_by casts
  unfolding callers_named_by
  callers_view =
      filter_agree (λ c. list_any (λ (cast : ActorSpec). contains c cast.callers) (map (actor_spec state) casts))
      (λ c. list_any (λ (cast : Cast K). contains c cast.callers) casts)
      (λ c. list_any-map (λ (cast : ActorSpec). contains c cast.callers) (actor_spec state) casts) (one_to 16)

  -- the same actors of a caller
  pub actors_naming_view : (c : ℕ) → naming_view c (map (actor_spec state) casts) ≡ actors_that_name c casts
  actors_naming_view c = sym (actors_naming-actor_spec state c casts)

  -- with the same limits
  pub limits_naming_view : (c : ℕ) → limits_view c (map (actor_spec state) casts) ≡ limits_that_name c casts
  limits_naming_view c =
      ap (map (λ (cast : ActorSpec). (cast.actor, cast.pending))) (filter_mapped (λ (cast : ActorSpec). contains c cast.callers) (actor_spec state) casts)
      ∙ map-map (λ (cast : ActorSpec). (cast.actor, cast.pending)) (actor_spec state) (filter (λ (cast : Cast K). contains c cast.callers) casts)

  -- the same actors, by rising number
  pub actors_view : map (λ (cast : Cast K). cast.actor) (by_rising_actor casts) ≡ actors_of_casts (map (actor_spec state) casts)
  actors_view =
      actors_rising casts
      ∙ sym (filter_agree (λ a. list_any (λ (cast : ActorSpec). cast.actor == a) (map (actor_spec state) casts)) (λ a. list_any
      (λ (cast : Cast K). cast.actor == a) casts) (λ a. list_any-map (λ (cast : ActorSpec). cast.actor == a) (actor_spec state) casts) (one_to 8))

  -- the cast of an actor
  pub cast_view : (a : ℕ) → cast_at a (map (actor_spec state) casts) ≡ option_map (actor_spec state) (find (λ (cast : Cast K). cast.actor == a) casts)
  cast_view a = find-map (λ (cast : ActorSpec). cast.actor == a) (actor_spec state) casts

  -- each cast by rising actor is the one of its actor
  pub each_cast_view : All (λ (cast : Cast K). cast_at cast.actor (map (actor_spec state) casts) ≡ Some (actor_spec state cast)) (by_rising_actor casts)
  unfolding by_rising_actor
  each_cast_view =
      All-weaker (λ (cast : Cast K). find (λ (other : Cast K). other.actor == cast.actor) casts ≡ Some cast)
      (λ (cast : Cast K). cast_at cast.actor (map (actor_spec state) casts) ≡ Some (actor_spec state cast))
      (λ cast is. cast_view cast.actor ∙ ap (option_map (actor_spec state)) is) (by_rising_actor casts)
      (each_first (λ (cast : Cast K). cast.actor) casts (one_to 8))

-- ---- plans

-- a caller and its steps
abbrev pub plan_view : ℕ × Vec Step → ℕ × List Step
plan_view plan = (plan.0, plan.1.items)

steps_view : (o : Option (ℕ × Vec Step)) → steps_of_plan (option_map plan_view o) ≡ steps_given o
steps_view None = refl
steps_view (Some plan) = refl

pub plan_of_view : (c : ℕ) (plans : List (ℕ × Vec Step)) → plan_of c (map plan_view plans) ≡ plan_in c plans
plan_of_view c plans =
    ap steps_of_plan (find-map (λ (plan : ℕ × List Step). plan.0 == c) plan_view plans) ∙ steps_view (find (λ (plan : ℕ × Vec Step). plan.0 == c) plans)

-- ---- parts

bad_of_role : Role → Option (ℕ × ℕ)
bad_of_role role = option_map (λ place. (role.caller, place)) (first_bad role.actors role.plan)

module _ {K : Type 0} (state : K → KindState) (casts : List (Cast K)) (plans : List (ℕ × Vec Step)) (setups : List CallerSetup)
    (is : map setup_view setups ≡ map (setup_of casts plans) (callers_named_by casts)) where
  -- a part for each caller
  pub setups_view : map (λ (setup : CallerSetup). setup.caller) setups ≡ callers_of_casts (map (actor_spec state) casts)
  setups_view = callers_are casts plans setups is ∙ sym (callers_view state casts)

  -- with its plan
  pub plans_are : All (λ (setup : CallerSetup). setup.plan.items ≡ plan_of setup.caller (map plan_view plans)) setups
  plans_are = All-weaker (λ setup. setup_of casts plans setup.caller ≡ setup_view setup) (λ (setup : CallerSetup). setup.plan.items ≡ plan_of setup.caller (map
      plan_view plans)) (λ setup role. sym (ap (λ (r : Role). r.plan) role) ∙ sym (plan_of_view setup.caller plans)) setups (roles_are casts plans setups is)

  -- and its actors
  pub actors_are : All (λ (setup : CallerSetup). setup.actors.items ≡ naming_view setup.caller (map (actor_spec state) casts)) setups
  actors_are = All-weaker (λ setup. setup_of casts plans setup.caller ≡ setup_view setup)
      (λ (setup : CallerSetup). setup.actors.items ≡ naming_view setup.caller (map (actor_spec state) casts))
      (λ setup role. sym (ap (λ (r : Role). r.actors) role) ∙ sym (actors_naming_view state casts setup.caller)) setups (roles_are casts plans setups is)

  -- with their limits
  pub limits_are : All (λ (setup : CallerSetup). setup.limits.items ≡ limits_view setup.caller (map (actor_spec state) casts)) setups
  limits_are = All-weaker (λ setup. setup_of casts plans setup.caller ≡ setup_view setup)
      (λ (setup : CallerSetup). setup.limits.items ≡ limits_view setup.caller (map (actor_spec state) casts))
      (λ setup role. sym (ap (λ (r : Role). r.limits) role) ∙ sym (limits_naming_view state casts setup.caller)) setups (roles_are casts plans setups is)

  bad_same : (c : ℕ) → bad_step_of (map (actor_spec state) casts) (map plan_view plans) c ≡ bad_of_role (setup_of casts plans c)
  unfolding bad_of_role
  bad_same c =
      ap (λ actors. option_map (λ place. (c, place)) (first_bad actors (plan_of c (map plan_view plans)))) (actors_naming_view state casts c)
      ∙ ap (λ plan. option_map (λ place. (c, place)) (first_bad (actors_that_name c casts) plan)) (plan_of_view c plans)

  bad_setups : filter_map bad_of_setup setups ≡ filter_map bad_of_role (map setup_view setups)
  unfolding bad_of_role
  bad_setups = sym (filter_map_map bad_of_role setup_view setups)

  -- the first step that would be refused
  pub bad_view : first_bad_plan (map (actor_spec state) casts) (map plan_view plans) ≡ slice_get (filter_map bad_of_setup setups) 0
  bad_view =
      ap (λ l. slice_get (filter_map (bad_step_of (map (actor_spec state) casts) (map plan_view plans)) l) 0) (callers_view state casts)
      ∙ ap (λ f. slice_get (filter_map f (callers_named_by casts)) 0) (λ i c. bad_same c i)
      ∙ ap (λ l. slice_get l 0)
      (sym (filter_map_map bad_of_role (setup_of casts plans) (callers_named_by casts)) ∙ ap (filter_map bad_of_role) (sym is) ∙ sym bad_setups)
