-- When a list of events is a play of what callers and actors left.
use Rattle.std.specs.Prelude.{◌≡◌, ℕ, ◌<◌, true, false, List, length, is_some, IsOk, All}
use Rattle.act_rules.specs.declared.event.Event.{Event}
use Rattle.act_rules.specs.Laws.{history}
use Rattle.act_rules.specs.History.{ActorSpec, History, opening, cast_of, is_caller, calls_of, kept_of, runs_of, is_dead, is_retired}
use Rattle.act_rules.specs.Rules.{outcomes}
use Rattle.act_rules.specs.Submissions.{kept_at}
use Rattle.act_owner.specs.Owner.{OwnerView}
use Rattle.act_serve.specs.Served.{EndView, Killed, Retired, Starved, end_id, end_log}

-- the caller has the calls that the history has of it, and for each the same answer
pub record IsOwnerIn (h : History) (owner : OwnerView) : Type 0 where
  pub known : is_caller owner.id h ≡ true
  pub calls : owner.calls ≡ calls_of owner.id h
  pub answers : (k : ℕ) → k < length owner.calls → kept_at owner.kept k ≡ kept_at (kept_of owner.id h) k

-- the actor ended in the history as it ended here
abbrev pub HasEndedIn : History → EndView → Type 0
HasEndedIn h (Killed dead) = is_dead dead.id h ≡ true
HasEndedIn h (Retired retired) = (is_dead retired.id h ≡ false) × (is_retired retired.id h ≡ true)
HasEndedIn h (Starved dead) = ⊥

-- the actor ran what the history has of it, and ended so
pub record IsEndIn (h : History) (end : EndView) : Type 0 where
  pub known : is_some (cast_of (end_id end) h) ≡ true
  pub runs : end_log end ≡ runs_of (end_id end) h
  pub ended : HasEndedIn h end

-- all events are accepted in a world of these casts, and it ends with these callers and these actors
pub record IsPlayOf (casts : List ActorSpec) (events : List Event) (owners : List OwnerView)
    (ends : List EndView) : Type 0 where
  pub accepted : All IsOk (outcomes (opening casts) events)
  pub callers : All (IsOwnerIn (history casts events)) owners
  pub actors : All (IsEndIn (history casts events)) ends

-- some list of events is a play of them
abbrev pub IsPlayed : List ActorSpec → List OwnerView → List EndView → Type 0
IsPlayed casts owners ends = (events : List Event) × IsPlayOf casts events owners ends
