-- Who is named by casts, told of their actor specifications.
use Rattle.act_actor.proofs.Common.{◌≡◌, ℕ, List, [], ◌∷◌, Bool, true, false, map, filter, refl, ap, KindState, Cast}
use Rattle.act_rules.specs.History.{ActorSpec, contains}
use Rattle.act_actor.specs.Casts.{actor_spec, actors_that_name}

-- the actors whose actor specifications name the caller
abbrev pub named_by : ℕ → List ActorSpec → List ℕ
named_by c actor_specs = map (λ (one : ActorSpec). one.actor) (filter (λ (one : ActorSpec). contains c one.callers) actor_specs)

one_more : {K : Type 0} (state : K → KindState) (c : ℕ) (cast : Cast K) (casts : List (Cast K)) (b : Bool) → contains c cast.callers ≡ b → actors_that_name c
    casts ≡ named_by c (map (actor_spec state) casts) → actors_that_name c (cast ∷ casts) ≡ named_by c (map (actor_spec state) (cast ∷ casts))
one_more state c cast casts true is same = rw is (ap (λ rest. cast.actor ∷ rest) same)
one_more state c cast casts false is same = rw is same

-- the actor specifications name a caller as their casts do
pub actors_naming-actor_spec : {K : Type 0} (state : K → KindState) (c : ℕ) (casts : List (Cast K)) →
    actors_that_name c casts ≡ named_by c (map (actor_spec state) casts)
actors_naming-actor_spec state c [] = refl
actors_naming-actor_spec state c (cast ∷ casts) = one_more state c cast casts (contains c cast.callers) refl (actors_naming-actor_spec state c casts)
