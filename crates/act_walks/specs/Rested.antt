-- How a walk that is through comes to its rest: callers let handles go, and actors retire.
use Rattle.std.specs.Prelude.{◌≡◌, ℕ, Bool, true, false, List, ◌++◌, slice_get, Some, None, All}
use Rattle.act_rules.specs.declared.event.Event.{Event}
use Rattle.act_rules.specs.declared.event.Event.TheVariants as event
use Rattle.act_rules.specs.History.{ActorSpec, contains}
use Rattle.act_rules.specs.Laws.{history}
use Rattle.act_rules.specs.Rules.{refusal_of}
use Rattle.act_world.specs.View.{WorldView}
use Rattle.act_told_ends.specs.Told.{Told}
use Rattle.act_plan_plays.specs.Parts.{IsBehind}
use Rattle.act_walks.specs.declared.told.ToldActor.{ToldActor}
use Rattle.act_walks.specs.Eager.{IsAtRest}

-- ---- what happens

-- whether the event is one of that time: a handle is let go, a letter is brought, or an actor retires
abbrev pub is_restful : Event → Bool
is_restful (event.Release c a) = true
is_restful (event.Deliver i) = true
is_restful (event.Retire a) = true
is_restful other = false

-- nothing else happened since
abbrev pub OnlyRests : List Event → List Event → Type 0
OnlyRests before after = (more : List Event) × (after ≡ before ++ more) × All (λ event. is_restful event ≡ true) more

-- nothing else happened, and the world stands after its events as before; where what is told is as `may` says, a walk
-- that was at rest still is
pub record RestsOn (may : Told → Type 0) (old new : WorldView) (before after : List Event) : Type 0 where
  pub only : OnlyRests before after
  pub behind : (casts : List ActorSpec) → IsBehind casts (history casts before) old before →
      IsBehind casts (history casts after) new after
  pub rests : (casts : List ActorSpec) (told : Told) → may told → IsBehind casts (history casts before) old before →
      IsAtRest told (history casts before) → IsAtRest told (history casts after)

-- the actor is told retired
abbrev pub IsToldRetired : ℕ → Told → Type 0
IsToldRetired a told = told.retired a ≡ true

-- the data of the actor says whether it is
abbrev pub SaysRetired : ℕ → ToldActor → Told → Type 0
SaysRetired a actor told = actor.is_retired ≡ true → told.retired a ≡ true

-- ---- what can't happen

-- whatever the casts, this event would be refused
abbrev pub CannotHappen : Event → WorldView → List Event → Type 0
CannotHappen event world events = (casts : List ActorSpec) → IsBehind casts (history casts events) world events →
    refusal_of (history casts events) event ≡ None → ⊥

-- none of the callers can let a handle of the actor go
abbrev pub HoldNone : List ℕ → ℕ → WorldView → List Event → Type 0
HoldNone callers a world events = (c : ℕ) → contains c callers ≡ true → CannotHappen (event.Release c a) world events

-- nor can the actor retire
pub record IsSettled (callers : List ℕ) (a : ℕ) (world : WorldView) (events : List Event) : Type 0 where
  pub hold : HoldNone callers a world events
  pub stays : CannotHappen (event.Retire a) world events

-- and so of each of these actors that is told retired, each at its number
abbrev pub AreSettled : List ToldActor → WorldView → List Event → Type 0
AreSettled actors world events = (a : ℕ) (actor : ToldActor) → slice_get actors a ≡ Some actor →
    actor.is_retired ≡ true → IsSettled actor.callers.items a world events
