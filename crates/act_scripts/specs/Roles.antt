-- The roles of a script.
use Rattle.std.specs.Prelude.{◌≢◌, ◌≤◌, List, length, All, AllPairs}
use Rattle.act_types.specs.declared.limits.TheConstants.{MAX_ACTORS}
use Rattle.act_rules.specs.History.{ActorSpec}
use Rattle.act_rules.specs.Submissions.{IsLimit}

-- the actors are distinct, and the callers of each; the actors are not too many; each limit is from 1 to 65,536
pub record AreFitting (casts : List ActorSpec) : Type 0 where
  pub actors : AllPairs (λ one other. one.actor ≢ other.actor) casts
  pub callers : All (λ cast. AllPairs (λ one other. one ≢ other) cast.callers) casts
  pub few : length casts ≤ MAX_ACTORS
  pub limits : All (λ cast. IsLimit cast.pending) casts

-- the actors are distinct numbers of actors, the callers of each are distinct, and each limit is from 1 to 65,536
pub record AreSound (casts : List ActorSpec) : Type 0 where
  pub actors : AllPairs (λ one other. one.actor ≢ other.actor) casts
  pub callers : All (λ cast. AllPairs (λ one other. one ≢ other) cast.callers) casts
  pub valid : All (λ cast. (1 ≤ cast.actor) × (cast.actor ≤ MAX_ACTORS)) casts
  pub limits : All (λ cast. IsLimit cast.pending) casts
