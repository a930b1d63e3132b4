-- Who is named by casts.
use Rattle.std.specs.Prelude.{ℕ, List, Option, map, filter}
use Rattle.std.specs.List.{flat_map}
use Rattle.act_types.specs.KindState.{KindState}
use Rattle.act_rules.specs.History.{ActorSpec, contains}
use Rattle.act_actor.specs.declared.cast.Cast.{Cast}

-- the actor, its callers, the state that its kind is in, and its limit
abbrev pub actor_spec : {K : Type 0} → (K → KindState) → Cast K → ActorSpec
actor_spec state cast = record {
  actor = cast.actor;
  callers = cast.callers;
  opening = state cast.kind;
  pending = cast.pending;
}

-- the actor with its limit
abbrev pub actor_limit : {K : Type 0} → Cast K → ℕ × Option ℕ
actor_limit cast = (cast.actor, cast.pending)

-- the callers that some cast names, as often as they are named
abbrev pub callers_named : {K : Type 0} → List (Cast K) → List ℕ
callers_named casts = flat_map (λ cast. cast.callers) casts

-- the actors whose casts name the caller
abbrev pub actors_that_name : {K : Type 0} → ℕ → List (Cast K) → List ℕ
actors_that_name c casts = map (λ cast. cast.actor) (filter (λ cast. contains c cast.callers) casts)

-- the same actors, each with its limit
abbrev pub limits_that_name : {K : Type 0} → ℕ → List (Cast K) → List (ℕ × Option ℕ)
limits_that_name c casts = map (λ cast. actor_limit cast) (filter (λ cast. contains c cast.callers) casts)
