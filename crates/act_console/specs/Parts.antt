-- The parts of a report, as its text is made.

use Rattle.std.specs.Prelude.{◌≡◌, ℕ, List, [], ◌++◌, codes, decimal, slice_get, Option, option_map}
use Rattle.std.specs.Option.{option_map_or}
use Rattle.act_types.specs.Texts.{space, actor_text, method_text, state_text}
use Rattle.act_rules.specs.Report.{future_text, future_line, future_lines, actor_lines, outcome_lines, summary_of}
use Rattle.act_rules.specs.declared.event.Event.{Event}
use Rattle.act_rules.specs.Rules.{Outcome}
use Rattle.act_rules.specs.declared.history.RunItem.{RunItem}
use Rattle.act_owner.specs.Owner.{OwnerView}
use Rattle.act_world.specs.View.{SlotView, Runs, Died, Ended, Vacant, WorldView, stage_in}
use Rattle.act_world.specs.IsReachedBy.{HasPlayed}
use Rattle.act_world.specs.Headline.{world_calls, world_kept, world_log}

-- the front of the line of a call that an actor ran, without its arguments
abbrev pub item_head : ℕ → ℕ → RunItem → List ℕ
item_head actor place item =
    actor_text actor ++ codes "." ++ decimal place ++ space ++ future_text item.caller item.future ++ space
    ++ method_text item.method

-- the line of a caller's future, where it has it
abbrev pub owner_line : OwnerView → ℕ → List ℕ
owner_line owner k = option_map_or (future_line owner.id owner.kept k) (slice_get owner.calls k) []

-- the lines of a caller's futures
abbrev pub owner_lines : OwnerView → List ℕ
owner_lines owner = future_lines owner.id owner.calls owner.kept

-- how an actor stands
abbrev pub standing_text : SlotView → List ℕ
standing_text (Runs live) = codes "live " ++ state_text live.state
standing_text (Died dead) = codes "dead"
standing_text (Ended retired) = codes "retired " ++ state_text retired.state
standing_text Vacant = []

abbrev pub standing_in : WorldView → ℕ → Option (List ℕ)
standing_in world a = option_map standing_text (stage_in world a)

-- the lines of a caller's futures in a world
unfoldable pub caller_lines : WorldView → ℕ → List ℕ
caller_lines world c = future_lines c (world_calls world c) (world_kept world c)

-- the lines of an actor in a world
unfoldable pub stage_lines : WorldView → ℕ → List ℕ
stage_lines world a = actor_lines a (world_log world a) (standing_in world a)

-- what a world shows: the futures of each caller, and each actor with its run list
unfoldable pub world_summary : WorldView → List ℕ
world_summary world = summary_of (world_calls world) (world_kept world) (standing_in world) (world_log world)

-- the report of what was told of events, and of the world after them
abbrev pub world_report : List Outcome → WorldView → List ℕ
world_report told world = outcome_lines told ++ world_summary world

-- the events were played, and the lines of what is told of them were added to the text
pub record AreTold (events : List Event) (old new : WorldView) (before text : List ℕ) : Type 0 where
  pub told : List Outcome
  pub played : HasPlayed events old new [] told
  pub written : text ≡ before ++ outcome_lines told
