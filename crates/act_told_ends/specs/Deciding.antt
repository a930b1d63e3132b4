-- What a walk decides that can't go on: if any events end as is told, it does.
use Rattle.std.specs.Prelude.{ℕ, List, Option, None, IsOk, All}
use Rattle.act_rules.specs.declared.event.Event.{Event}
use Rattle.act_rules.specs.declared.script.Step.{Step}
use Rattle.act_rules.specs.History.{ActorSpec, History, opening}
use Rattle.act_rules.specs.Laws.{history}
use Rattle.act_rules.specs.Rules.{outcomes}
use Rattle.act_told_ends.specs.Told.{Told, EndsAsTold}
use Rattle.act_told_ends.specs.Walks.{MayGoOn, IsThrough}
use Rattle.act_told_ends.specs.Walked.{IsWalked}
use Rattle.act_told_ends.specs.Retiring.{MayRetire}
use Rattle.act_told_ends.specs.Resting.{IsResting}

-- where some events end as is told, a walk that can't go on is through
abbrev pub StuckIsThrough : Type 0
StuckIsThrough = (casts : List ActorSpec) (bound : ℕ → Option (List Step)) (told : Told) (done : ℕ → ℕ) (h : History) →
    IsWalked casts bound told done h → (MayGoOn bound told done h → ⊥) →
    (events : List Event) → EndsAsTold casts bound told events → IsThrough bound told done h

-- and where no caller is bound, and no actor can retire that is told retired, its own events end as is told
abbrev pub StuckEndsAsTold : Type 0
StuckEndsAsTold = (casts : List ActorSpec) (told : Told) (walk : List Event) →
    All IsOk (outcomes (opening casts) walk) → IsResting casts (λ c. None) told (history casts walk) →
    (MayRetire told (history casts walk) → ⊥) →
    (events : List Event) → EndsAsTold casts (λ c. None) told events → EndsAsTold casts (λ c. None) told walk
