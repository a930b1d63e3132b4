-- What the world itself shows: its callers' calls and answers, its actors' run lists, and who died.
use Rattle.std.specs.Prelude.{ℕ, Bool, false, List, [], find, slice_get, Option}
use Rattle.std.specs.Option.{option_map_or}
use Rattle.act_rules.specs.declared.history.RunItem.{RunItem}
use Rattle.act_rules.specs.declared.history.Submission.{Submission}
use Rattle.act_rules.specs.RunList.{Answer}
use Rattle.act_rules.specs.History.{ActorSpec, opening, opening_of}
use Rattle.act_rules.specs.Consistent.{Consistent}
use Rattle.act_world.specs.Network.{is_owner}
use Rattle.act_world.specs.View.{SlotView, Runs, Died, Ended, Vacant, WorldView}
use Rattle.act_world.specs.Slots.{is_dead_slot}

-- what a caller submitted, and the answers that it keeps
abbrev pub world_calls : WorldView → ℕ → List Submission
world_calls world c = option_map_or (λ owner. owner.calls) (find (is_owner c) world.network.owners) []

abbrev pub world_kept : WorldView → ℕ → List (Option Answer)
world_kept world c = option_map_or (λ owner. owner.kept) (find (is_owner c) world.network.owners) []

-- what an actor ran, in whatever state it is
abbrev pub slot_log : SlotView → List RunItem
slot_log (Runs live) = live.log
slot_log (Died dead) = dead.log
slot_log (Ended retired) = retired.log
slot_log Vacant = []

abbrev pub world_log : WorldView → ℕ → List RunItem
world_log world a = option_map_or slot_log (slice_get world.slots a) []

-- whether an actor is dead
abbrev pub world_died : WorldView → ℕ → Bool
world_died world a = option_map_or is_dead_slot (slice_get world.slots a) false

-- each actor ran a prefix of what each caller submitted to it, in order, each once; each answer kept is that of the
-- call's place in a run list, or a dead actor's
abbrev pub IsConsistent : List ActorSpec → WorldView → Type 0
IsConsistent casts world = Consistent (λ a. opening_of a (opening casts)) (world_calls world) (world_log world)
    (world_kept world) (world_died world)
