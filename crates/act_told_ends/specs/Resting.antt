-- The whole way: from the opened world to the end that is told.
use Rattle.std.specs.Prelude.{◌⊎◌, ℕ, List, Option}
use Rattle.act_rules.specs.declared.event.Event.{Event}
use Rattle.act_rules.specs.declared.event.Event.TheVariants as event
use Rattle.act_rules.specs.declared.script.Step.{Step}
use Rattle.act_rules.specs.History.{ActorSpec, History}
use Rattle.act_rules.specs.Rules.{add_event}
use Rattle.act_told_ends.specs.Told.{Told, Leaves, EndsAsTold}
use Rattle.act_told_ends.specs.Walks.{IsThrough}
use Rattle.act_told_ends.specs.Walked.{IsWalked}
use Rattle.act_told_ends.specs.Retiring.{MayRetire, LetsGo, Notes, Retires, RetiredAsTold}

-- what is left once it was done for an actor that is told retired
abbrev pub rested : (told : Told) (h : History) → MayRetire told h → History
rested told h (LetsGo c a is may) = add_event h (event.Release c a)
rested told h (Notes c a i is yet at may) = add_event h (event.Deliver i)
rested told h (Retires a is may) = add_event h (event.Retire a)

-- a walk that was through, and of which only such things were done since
pub data IsResting (casts : List ActorSpec) (bound : ℕ → Option (List Step)) (told : Told) : History → Type 0 where
  Through : (done : ℕ → ℕ) (h : History) → IsWalked casts bound told done h → IsThrough bound told done h →
      IsResting casts bound told h
  Rests : (h : History) (thing : MayRetire told h) → IsResting casts bound told h →
      IsResting casts bound told (rested told h thing)

-- the end that is told
abbrev pub IsEndTold : Told → History → Type 0
IsEndTold told h = Leaves told h × RetiredAsTold told h

-- where some events end as is told, it is at this end, or may go on
abbrev pub RestsAtTheEnd : Type 0
RestsAtTheEnd = (casts : List ActorSpec) (bound : ℕ → Option (List Step)) (told : Told) (events : List Event)
    (h : History) →
    EndsAsTold casts bound told events → IsResting casts bound told h → IsEndTold told h ⊎ MayRetire told h

-- so where it is stuck before, no events end as is told
abbrev pub StuckAtRestRefutesAll : Type 0
StuckAtRestRefutesAll = (casts : List ActorSpec) (bound : ℕ → Option (List Step)) (told : Told) (h : History) →
    IsResting casts bound told h → (IsEndTold told h → ⊥) → (MayRetire told h → ⊥) →
    (events : List Event) → EndsAsTold casts bound told events → ⊥
