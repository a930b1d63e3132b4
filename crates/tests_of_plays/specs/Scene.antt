-- Who there is in a scene.
use Rattle.std.specs.Prelude.{ℕ, List, [], ◌∷◌, Option}
use Rattle.act_types.specs.KindState.{KindState}
use Rattle.act_rules.specs.History.{ActorSpec}

-- two actors in these states, which both callers may call
abbrev pub two_actor_specs : Option ℕ → KindState → KindState → List ActorSpec
two_actor_specs pending one two =
    record { actor = 1; callers = 1 ∷ 2 ∷ []; opening = one; pending = pending }
    ∷ record { actor = 2; callers = 1 ∷ 2 ∷ []; opening = two; pending = pending } ∷ []
