-- A walk made of nothing but what may be done next, and any letters that are sent and delivered.
use Rattle.std.specs.Prelude.{◌≡◌, ◌+◌, ◌==◌, ◌⊎◌, ℕ, if◌then◌else◌, List, Option, None}
use Rattle.act_rules.specs.declared.event.Event.{Event}
use Rattle.act_rules.specs.declared.event.Event.TheVariants as event
use Rattle.act_rules.specs.declared.script.Step.{Step}
use Rattle.act_rules.specs.History.{ActorSpec, History, opening}
use Rattle.act_rules.specs.Rules.{refusal_of, add_event}
use Rattle.act_early.specs.Plays.{after_step}
use Rattle.act_told_ends.specs.Told.{Told, EndsAsTold, IsWalk}
use Rattle.act_told_ends.specs.Walks.{MayGoOn, Calls, Asks, Steps, DoesWithout, Sends, Delivers, Runs, Collects, TakesKill, Tells, Hears, IsThrough}

-- one step more that the caller did
abbrev pub one_step_more : ℕ → (ℕ → ℕ) → ℕ → ℕ
one_step_more c done d = if c == d then done d + 1 else done d

-- what is left once it was done
abbrev pub gone_on : (bound : ℕ → Option (List Step)) (told : Told) (done : ℕ → ℕ) (h : History) →
    MayGoOn bound told done h → (ℕ → ℕ) × History
gone_on bound told done h (Calls c call free next may) =
    (done, add_event h (event.Submit c call.actor call.method call.args))
gone_on bound told done h (Asks c a free dead yet may) = (done, add_event h (event.AskKill c a))
gone_on bound told done h (Steps c steps step is next may) = (one_step_more c done, after_step c step h)
gone_on bound told done h (DoesWithout c a steps is next dead) = (one_step_more c done, h)
gone_on bound told done h (Sends a item next unsent may) = (done, add_event h (event.Send item.caller item.future))
gone_on bound told done h (Delivers a i item next yet at may) = (done, add_event h (event.Deliver i))
gone_on bound told done h (Runs a item next is may) = (done, add_event h (event.Run a item.caller))
gone_on bound told done h (Collects j c a place item at there reply none) = (done, add_event h (event.Collect j))
gone_on bound told done h (TakesKill a dead last may) = (done, add_event h (event.TakeKill a))
gone_on bound told done h (Tells c a hears none may) = (done, add_event h (event.Tell a c))
gone_on bound told done h (Hears j c a hears none at) = (done, add_event h (event.Collect j))

-- from the opened world on, only such things were done, and letters sent and delivered
pub data IsWalked (casts : List ActorSpec) (bound : ℕ → Option (List Step)) (told : Told) :
    (ℕ → ℕ) → History → Type 0 where
  Begins : IsWalked casts bound told (λ c. 0) (opening casts)
  GoesOn : (done : ℕ → ℕ) (h : History) (thing : MayGoOn bound told done h) → IsWalked casts bound told done h →
      IsWalked casts bound told (gone_on bound told done h thing).0 (gone_on bound told done h thing).1
  Mails : (done : ℕ → ℕ) (h : History) (c k : ℕ) → refusal_of h (event.Send c k) ≡ None →
      IsWalked casts bound told done h → IsWalked casts bound told done (add_event h (event.Send c k))
  Brings : (done : ℕ → ℕ) (h : History) (i : ℕ) → refusal_of h (event.Deliver i) ≡ None →
      IsWalked casts bound told done h → IsWalked casts bound told done (add_event h (event.Deliver i))

-- where some events end as is told, whoever walks so did only what is told
abbrev pub EachWalkIsOne : Type 0
EachWalkIsOne = (casts : List ActorSpec) (bound : ℕ → Option (List Step)) (told : Told) (events : List Event)
    (done : ℕ → ℕ) (h : History) →
    EndsAsTold casts bound told events → IsWalked casts bound told done h → IsWalk bound told done h

-- and is through, or may go on
abbrev pub WalksGoOn : Type 0
WalksGoOn = (casts : List ActorSpec) (bound : ℕ → Option (List Step)) (told : Told) (events : List Event)
    (done : ℕ → ℕ) (h : History) →
    EndsAsTold casts bound told events → IsWalked casts bound told done h →
    IsThrough bound told done h ⊎ MayGoOn bound told done h

-- so where such a walk isn't through, and nothing may be done, no events end as is told
abbrev pub StuckRefutesAll : Type 0
StuckRefutesAll = (casts : List ActorSpec) (bound : ℕ → Option (List Step)) (told : Told) (done : ℕ → ℕ) (h : History) →
    IsWalked casts bound told done h → (IsThrough bound told done h → ⊥) → (MayGoOn bound told done h → ⊥) →
    (events : List Event) → EndsAsTold casts bound told events → ⊥
