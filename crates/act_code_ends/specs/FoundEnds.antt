-- What is said of all ends that are found.
use Rattle.std.specs.Prelude.{ℕ, List, All}
use Rattle.act_types.specs.KindState.{KindState}
use Rattle.act_rules.specs.History.{ActorSpec}
use Rattle.act_world.specs.View.{world_view}
use Rattle.act_drive.specs.Sessions.{SessionView}
use Rattle.act_code_ends.specs.declared.certified.Played.{Played}
use Rattle.act_code_ends.specs.Ends.{IsEnd}

-- each of these is an end
abbrev pub AreEnds : {K C : Type 0} → (K → KindState) → (ℕ → C → Type 0) → (C → SessionView → SessionView → Type 0) →
    List ActorSpec → List (Played K) → Type 0
AreEnds state makes tells casts found =
    All (λ end. IsEnd makes tells casts end.events.items (world_view state end.world)) found
