-- Worlds, which are played event by event.

-- what contracts see of a world, and of an actor in it
pub use Rattle.act_world.specs.View.{WorldOf, WorldView, world_view, SlotView, Runs, Died, Ended, Vacant, stage_view}
pub use Rattle.act_world.specs.View.{stage_in, is_owner}
pub use Rattle.act_world.specs.declared.slot.Slot.{Slot}
-- a world stands after events; some were played, and it has grown by no more than that
pub use Rattle.act_world.specs.IsReachedBy.{IsReachedBy, HasPlayed, IsGrown, IsGrownBy}
-- room for so many events more, and want of memory
pub use Rattle.act_world.specs.IsReachedBy.{HasRoom, is_memory, IsUnrefused, IsUnrefusedAt}
pub use Rattle.act_world.specs.Memory.{takes_memory, TakesMemory, TakesMemoryAt}
-- a caller and an actor of it, as the rules have them
pub use Rattle.act_world.specs.Refines.{IsOwnerAt, IsStage}
-- its calls, answers and run lists, and the headline
pub use Rattle.act_world.specs.Headline.{world_calls, world_kept, world_log, slot_log, world_died, IsConsistent}
-- how the calls and the run lists grow by what is told
pub use Rattle.act_world.specs.Shown.{calls_told, runs_told, new_calls, new_runs, all_new, ShowsWhatIsTold, ShowsNothing}
