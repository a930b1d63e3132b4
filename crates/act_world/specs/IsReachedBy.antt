-- For which events a world stands, and what an event and a list of events make of it.
use Rattle.std.specs.Prelude.{◌≡◌, ℕ, ◌+◌, ◌<◌, ◌≤◌, Bool, true, false, List, ◌++◌, length, slice_get, None, Err, IfSome}
use Rattle.act_rules.specs.declared.event.Event.{Event}
use Rattle.act_rules.specs.declared.outcome.WorldRefusal.TheVariants.{NoMemory}
use Rattle.act_rules.specs.Laws.{history}
use Rattle.act_rules.specs.History.{ActorSpec}
use Rattle.act_rules.specs.Rules.{Outcome, refusal_of, outcome_of, outcomes, after}
use Rattle.act_world.specs.Network.{NetworkView}
use Rattle.act_world.specs.View.{SlotView, WorldView, with_slots}
use Rattle.act_world.specs.Refines.{Refines}

-- the world stands after these events of a world with these casts
abbrev pub IsReachedBy : List ActorSpec → List Event → WorldView → Type 0
IsReachedBy casts events world = Refines (history casts events) world

-- whether memory was refused
abbrev pub is_memory : Outcome → Bool
is_memory (Err NoMemory) = true
is_memory told = false

-- the letters and the notices are few enough for so many events more
abbrev pub HasRoom : ℕ → NetworkView → Type 0
HasRoom count network = length network.mail + length network.replies + count < 4294967296

-- there are so many letters and notices more, at most
abbrev pub IsGrownBy : ℕ → NetworkView → NetworkView → Type 0
IsGrownBy count old new = length new.mail + length new.replies ≤ length old.mail + length old.replies + count

-- there is one letter or notice more, at most
abbrev pub IsGrown : NetworkView → NetworkView → Type 0
IsGrown old new = IsGrownBy 1 old new

-- whatever events the world stood after: it stands after this one, too, of which the definition's outcome is told
abbrev pub FollowsRules : Event → WorldView → WorldView → Outcome → Type 0
FollowsRules event old new told = (casts : List ActorSpec) (before : List Event) →
    IsReachedBy casts before old → (told ≡ outcome_of (history casts before) event) × Refines (after (history casts before) event) new

-- whatever events the world stood after: nothing refuses this one
abbrev pub IsUnrefused : Event → WorldView → Type 0
IsUnrefused event world = (casts : List ActorSpec) (before : List Event) → IsReachedBy casts before world → refusal_of (history casts before) event ≡ None

-- the same of an event that changes no actor, whatever the actors are
abbrev pub IsUnrefusedThere : Event → NetworkView → Type 0
IsUnrefusedThere event network = (slots : List SlotView) → IsUnrefused event (with_slots slots network)

-- nothing refuses the event at this place
abbrev pub IsUnrefusedAt : ℕ → List Event → WorldView → Type 0
IsUnrefusedAt i events world = IfSome (slice_get events i) (λ event. IsUnrefused event world)

-- whatever events the world stood after: it stands after these too, and what is told of them is added
abbrev pub HasPlayed : List Event → WorldView → WorldView → List Outcome → List Outcome → Type 0
HasPlayed events old new told told_after = (casts : List ActorSpec) (before : List Event) →
    IsReachedBy casts before old → IsReachedBy casts (before ++ events) new × (told_after ≡ told ++ outcomes (history casts before) events)
