-- What a world that played events says of them.
use Rattle.std.proofs.Common.{◌≡◌, ◌↔◌, Bool, List, [], ◌++◌, ap, ◌∙◌, subst, All, IsOk, IsTrue}
use Rattle.act_rules.specs.declared.event.Event.{Event}
use Rattle.act_rules.specs.History.{ActorSpec, opening}
use Rattle.act_rules.specs.Rules.{Outcome, outcomes}
use Rattle.act_world.specs.View.{WorldView}
use Rattle.act_world.specs.IsReachedBy.{IsReachedBy, HasPlayed}

-- what was told of events that were played
pub told_in : (casts : List ActorSpec) (events : List Event) (old new : WorldView) (empty told : List Outcome) (r : Bool) → empty ≡ [] →
    HasPlayed events old new empty told → (IsTrue r ↔ All IsOk told) → IsReachedBy casts [] old → IsTrue r ↔ All IsOk (outcomes (opening casts) events)
told_in casts events old new empty told r none played tells opened =
    subst (λ told. IsTrue r ↔ All IsOk told) ((played casts [] opened).1 ∙ ap (λ front. front ++ outcomes (opening casts) events) none) tells
