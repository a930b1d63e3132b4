-- When casts can be opened.
use Rattle.std.specs.Prelude.{◌≢◌, ℕ, List, All, AllPairs}
use Rattle.act_rules.specs.Submissions.{IsLimit}
use Rattle.act_actor.specs.declared.cast.Cast.{Cast}

-- no caller stands twice
abbrev pub CallersDiffer : List ℕ → Type 0
CallersDiffer callers = AllPairs (λ one other. one ≢ other) callers

-- no actor stands twice
abbrev pub ActorsDiffer : {K : Type 0} → List (Cast K) → Type 0
ActorsDiffer casts = AllPairs (λ one other. one.actor ≢ other.actor) casts

-- the actors are distinct, the callers of each are, and each limit is from 1 to 65,536
pub record IsFitting {K : Type 0} (casts : List (Cast K)) : Type 0 where
  pub actors : ActorsDiffer casts
  pub callers : All (λ cast. CallersDiffer cast.callers) casts
  pub limits : All (λ cast. IsLimit cast.pending) casts
