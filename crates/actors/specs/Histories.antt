-- Histories of runs in threads, by their order alone.

-- what a run leaves, as a history
pub use Rattle.act_told.specs.Told.{told_by}
-- its calls, its actors and its runs, by their places
pub use Rattle.act_orders.specs.Order.{call_of, actor_of}
pub use Rattle.act_orders.specs.Causes.{run_of, last_call}
-- what holds of the history of each run
pub use Rattle.act_told.specs.InOrder.{JoinedRunsAreInTurn, JoinedRunsEndRight, StandsAsItsActor}
pub use Rattle.act_orders.specs.Order.{RunsInTurn, calls_run}
-- the test of a history, and what the judge answers
pub use Rattle.act_orders.specs.Causes.{IsWhole}
pub use Rattle.act_orders.specs.Order.{IsInOrderBy}
pub use Rattle.act_orders.specs.Refused.{TellsFaults}
-- a history as a text, and what a writer holds of it
pub use Rattle.act_written.specs.Texts.{history_text}
pub use Rattle.act_written.specs.Output.{Wrote}
