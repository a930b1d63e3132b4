-- A run in threads as a play.

-- events that end in what the threads left
pub use Rattle.act_executor.specs.Plays.{IsPlayed, IsPlayOf, IsOwnerIn, IsEndIn}
-- and that do the plans, step by step
pub use Rattle.act_executor.specs.PlanPlays.{IsPlayedAsPlanned, IsPlayOfPlans, DoesPlanIn, DoesStepIn, IsMeanwhile, step_of}
pub use Rattle.act_executor.specs.PlanPlays.{CollectsInLine, is_between}
-- when each error comes
pub use Rattle.act_replay.specs.Faults.{IsRecordFault, IsPlayFault}
