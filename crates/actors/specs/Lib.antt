-- What clauses of a client name. A type of the code is a module here: `Rattle.actors.specs.Method.{Method}` is the type,
-- and `Rattle.actors.specs.Method.TheVariants.{Add}` a case of it. All other words stand in the modules at the end, by
-- what they speak of: each word that a clause of a call of this crate names, and some that proofs of clients name. The
-- path behind `pub use` tells where a word is defined.

-- values, calls, messages
pub use Rattle.act_types.specs.declared.call.Value
pub use Rattle.act_types.specs.declared.call.Method
pub use Rattle.act_types.specs.declared.call.Arg
pub use Rattle.act_types.specs.declared.call.Settled
pub use Rattle.act_types.specs.declared.call.Fault
pub use Rattle.act_types.specs.declared.call.Packet
pub use Rattle.act_types.specs.declared.call.ReleaseNote
pub use Rattle.act_types.specs.declared.call.KillNote
pub use Rattle.act_types.specs.declared.call.Reply
pub use Rattle.act_types.specs.declared.call.Notice
-- events and steps, and what is told of them
pub use Rattle.act_rules.specs.declared.event.Event
pub use Rattle.act_rules.specs.declared.script.Step
pub use Rattle.act_rules.specs.declared.history.Submission
pub use Rattle.act_rules.specs.declared.history.RunItem
pub use Rattle.act_rules.specs.declared.outcome.Did
pub use Rattle.act_rules.specs.declared.outcome.Arrival
pub use Rattle.act_rules.specs.declared.outcome.WorldRefusal
pub use Rattle.act_rules.specs.declared.outcome.SubmitRefusal
pub use Rattle.act_rules.specs.declared.outcome.SendRefusal
pub use Rattle.act_rules.specs.declared.outcome.HandleRefusal
pub use Rattle.act_owner.specs.declared.owner.Collected
-- actors, and how they end
pub use Rattle.act_actor.specs.declared.cast.Cast
pub use Rattle.act_world.specs.declared.slot.Stage
pub use Rattle.act_serve.specs.declared.turn.Ended
pub use Rattle.act_serve.specs.declared.turn.Finished
-- errors of runs in threads, and of callers that are code
pub use Rattle.act_executor.specs.declared.run.RunFault
pub use Rattle.act_drive.specs.declared.refusals.WaitRefusal
pub use Rattle.act_drive.specs.declared.refusals.KillRefusal
pub use Rattle.act_replay.specs.declared.run.RecordFault
pub use Rattle.act_service.specs.declared.epochs.EpochFault
-- every end of plans
pub use Rattle.act_explore.specs.declared.opening.End
pub use Rattle.act_explore.specs.declared.exploring.Found
pub use Rattle.act_explore.specs.declared.exploring.Ends
pub use Rattle.act_explore.specs.declared.search.Visited
pub use Rattle.act_explore.specs.declared.search.Searched
pub use Rattle.act_explore.specs.declared.fault.ExploreFault
-- histories by order alone
pub use Rattle.act_orders.specs.declared.told.Told
pub use Rattle.act_orders.specs.declared.verdict.Refused
pub use Rattle.act_written.specs.declared.fault.WriteFault
-- scripts
pub use Rattle.act_rules.specs.declared.script.Mode
pub use Rattle.act_rules.specs.declared.script.Role
pub use Rattle.act_rules.specs.declared.script.KindName
pub use Rattle.act_rules.specs.declared.script.Wrong
-- words, by what they speak of
pub mod Limits
pub mod Kinds
pub mod Texts
pub mod Callers
pub mod Actors
pub mod Rules
pub mod Worlds
pub mod Threads
pub mod Codes
pub mod Plays
pub mod PlanEnds
pub mod Epochs
pub mod Histories
pub mod Scripts
