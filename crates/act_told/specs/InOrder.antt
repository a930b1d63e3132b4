-- What holds of the history of each joined run, of that which `judge` looks at.
use Rattle.std.specs.Prelude.{◌≡◌, ℕ, ◌<◌, List, length, Contains}
use Rattle.act_rules.specs.History.{ActorSpec}
use Rattle.act_rules.specs.declared.script.Step.{Step}
use Rattle.act_owner.specs.Owner.{OwnerView}
use Rattle.act_serve.specs.Served.{EndView}
use Rattle.act_executor.specs.Joined.{IsJoined}
use Rattle.act_orders.specs.declared.told.End.TheVariants.{Dead, Retired}
use Rattle.act_orders.specs.declared.told.Outcome.TheVariants.{Died}
use Rattle.act_orders.specs.declared.told.Told.{Told}
use Rattle.act_orders.specs.Order.{RunsInTurn, call_of, actor_of, calls_run}
use Rattle.act_told.specs.Told.{told_by}

-- whatever was run, each call that an actor ran is its caller's next one to it
abbrev pub JoinedRunsAreInTurn : Type 0
JoinedRunsAreInTurn = (casts : List ActorSpec) (plans : List (ℕ × List Step)) (owners : List OwnerView)
    (ends : List EndView) → IsJoined casts plans owners ends → RunsInTurn (told_by owners ends)

-- a call stands as its actor does at the end
pub record StandsAsItsActor (told : Told) (n : ℕ) : Type 0 where
  -- a death is that of a dead actor
  pub died : (call_of told n).outcome ≡ Died → (actor_of told (call_of told n).actor).end ≡ Dead
  -- an actor that retired ran it
  pub retired : (actor_of told (call_of told n).actor).end ≡ Retired → Contains (calls_run told) n

-- and each call does
abbrev pub JoinedRunsEndRight : Type 0
JoinedRunsEndRight = (casts : List ActorSpec) (plans : List (ℕ × List Step)) (owners : List OwnerView)
    (ends : List EndView) → IsJoined casts plans owners ends → (n : ℕ) → n < length (told_by owners ends).calls →
    StandsAsItsActor (told_by owners ends) n
