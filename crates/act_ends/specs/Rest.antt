-- A world whose actors retire, one after another.
use Rattle.std.specs.Prelude.{◌≡◌, ℕ, ◌≤◌, ◌||◌, true, List, is_some}
use Rattle.act_rules.specs.declared.event.Event.{Event}
use Rattle.act_rules.specs.History.{ActorSpec, History, contains, cast_of, is_dead}
use Rattle.act_rules.specs.Laws.{history}
use Rattle.act_world.specs.View.{WorldView}
use Rattle.act_world.specs.IsReachedBy.{IsReachedBy}

-- the world stands where some actors retired after the history; each actor up to this number is dead or retired
pub record IsResting (casts : List ActorSpec) (h : History) (count : ℕ) (world : WorldView) : Type 0 where
  pub events : List Event
  pub reached : IsReachedBy casts events world
  pub retired : List ℕ
  pub same : history casts events ≡ record h { retired = retired }
  pub rests : (a : ℕ) → 1 ≤ a → a ≤ count → is_some (cast_of a h) ≡ true → (is_dead a h || contains a retired) ≡ true
