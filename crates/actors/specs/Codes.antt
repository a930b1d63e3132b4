-- Callers that are code, in threads.

-- what contracts see of a session, and how it goes on
pub use Rattle.act_drive.specs.Sessions.{SessionView, session_view, IsLater, DoesMore, DoesSome, OnlyHears}
pub use Rattle.act_drive.specs.Sessions.{Submits, LetsGo, AsksKill}
-- what a session waits for, what it refuses, and what it counts
pub use Rattle.act_drive.specs.Sessions.{are_known, may_wait_for, first_answered}
pub use Rattle.act_drive.specs.Sessions.{call_refusal, use_refusal, kill_refusal, kills_of, pending_of, session_limit}
-- the test of codes, and what every run of them leaves
pub use Rattle.act_executor.specs.Conducts.{CodesFit}
pub use Rattle.act_executor.specs.ByCode.{IsJoinedBy, HasTold, IsPlayedBy}
