-- A play after which actors retire.
use Rattle.std.specs.Prelude.{◌≡◌, ℕ, ◌≤◌, true, List, All, IsOk, is_some}
use Rattle.act_types.specs.declared.limits.TheConstants.{MAX_ACTORS}
use Rattle.act_rules.specs.declared.event.Event.{Event}
use Rattle.act_rules.specs.declared.script.Step.{Step}
use Rattle.act_rules.specs.History.{ActorSpec, History, opening, cast_of, is_ended}
use Rattle.act_rules.specs.Laws.{history}
use Rattle.act_rules.specs.Rules.{outcomes}
use Rattle.act_world.specs.View.{WorldView}
use Rattle.act_world.specs.IsReachedBy.{IsReachedBy}
use Rattle.act_early.specs.Plays.{At, IsPlay}

-- some actors retired after the play was there, and nothing else happened; the world stands after these events, each of
-- them accepted
pub record IsRetiredFrom (casts : List ActorSpec) (plans : ℕ → List Step) (at end : At) (world : WorldView)
    (events : List Event) : Type 0 where
  pub play : IsPlay casts plans end
  pub same : end.history ≡ record at.history { retired = end.history.retired }
  pub stepped : end.stepped ≡ at.stepped
  pub history : end.history ≡ history casts events
  pub reached : IsReachedBy casts events world
  pub accepted : All IsOk (outcomes (opening casts) events)

-- one actor more, if it has a cast; whoever was dead or retired still is
pub record GoesOnRetired (casts : List ActorSpec) (plans : ℕ → List Step) (at end : At) (a : ℕ) (world : WorldView)
    (events : List Event) : Type 0 where
  pub next : At
  pub is : IsRetiredFrom casts plans at next world events
  pub over : is_some (cast_of a at.history) ≡ true → is_ended a next.history ≡ true
  pub stays : (b : ℕ) → is_ended b end.history ≡ true → is_ended b next.history ≡ true

-- each actor that has a cast is dead or retired
abbrev pub AllOver : History → Type 0
AllOver h = (a : ℕ) → 1 ≤ a → a ≤ MAX_ACTORS → is_some (cast_of a h) ≡ true → is_ended a h ≡ true
