-- Runs of plans in threads.

-- the test of plans, and what contracts see of them
pub use Rattle.act_plans.specs.Setups.{PlansFit}
pub use Rattle.act_plans.specs.Runs.{plan_of, steps_of_plan, first_bad_plan, actors_of_casts, cast_at}
pub use Rattle.act_executor.specs.Runs.{plan_view}
-- when each error comes
pub use Rattle.act_executor.specs.Runs.{IsFault}
-- what every run leaves
pub use Rattle.act_executor.specs.Joined.{IsJoined, RanAll, CallsThatDiedNeverRan}
-- how an actor ended
pub use Rattle.act_serve.specs.Served.{EndView, Killed, Retired, Starved, end_view, IfRetired, end_id, end_log}
-- callers and actors of what is left, by their numbers: their calls, answers and logs
pub use Rattle.act_executor.specs.Joined.{owner_of, end_of, calls_in, kept_in, log_in, killed_in}
pub use Rattle.act_executor.specs.Joined.{calls_of_owner, kept_of_owner, log_of_end, is_killed_end}
