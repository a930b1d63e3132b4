-- What a walk decides that can't go on.
use Rattle.act_told_ends.proofs.Common.{ℕ, List, Option, None, inl, inr, ◌⊎◌, IsOk, All, Event, Step, ActorSpec, History, opening, history, outcomes, Told}
use Rattle.act_told_ends.proofs.Common.{EndsAsTold, MayGoOn, IsThrough, IsWalked, MayRetire, IsResting, IsEndTold}
use Rattle.act_told_ends.proofs.Stepped.{goes_on}
use Rattle.act_told_ends.proofs.Resting.{at_the_end}

pub stuck_through : (casts : List ActorSpec) (bound : ℕ → Option (List Step)) (told : Told) (done : ℕ → ℕ) (h : History) → IsWalked casts bound told done h
    → (MayGoOn bound told done h → ⊥) → (events : List Event) → EndsAsTold casts bound told events → IsThrough bound told done h
stuck_through casts bound told done h walked stuck events ends = go (goes_on casts bound told events done h ends walked)
  where
    go : IsThrough bound told done h ⊎ MayGoOn bound told done h → IsThrough bound told done h
    go (inl through) = through
    go (inr thing) = absurd (stuck thing)

pub stuck_ends : (casts : List ActorSpec) (told : Told) (walk : List Event) → All IsOk (outcomes (opening casts) walk)
    → IsResting casts (λ c. None) told (history casts walk) → (MayRetire told (history casts walk) → ⊥)
    → (events : List Event) → EndsAsTold casts (λ c. None) told events → EndsAsTold casts (λ c. None) told walk
stuck_ends casts told walk accepted rests stuck events ends = go (at_the_end ends rests)
  where
    go : IsEndTold told (history casts walk) ⊎ MayRetire told (history casts walk) → EndsAsTold casts (λ c. None) told walk
    go (inl end) = record { accepted = accepted; leaves = end.0; retired = end.1; does = λ c steps is. cc }
    go (inr thing) = absurd (stuck thing)
