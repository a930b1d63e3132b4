-- One caller: its calls, its answers and its handles.

-- a caller, as it was opened, and after a call was submitted, sent, and heard of
pub use Rattle.act_owner.specs.Owner.{OwnerView, open_owner, opened_with, with_submission, with_sent, after_collect, collect_result}
-- its calls, those to one actor, and the answer that is kept
pub use Rattle.act_owner.specs.Owner.{call_at, address_at}
pub use Rattle.act_rules.specs.Submissions.{calls_to, kept_at, settle}
-- what may be sent, and as which packet
pub use Rattle.act_owner.specs.Owner.{first_ready, packet_at, sending_refusal}
-- how many calls have no answer, and how many may have none
pub use Rattle.act_owner.specs.Owner.{pending, owner_limit, call_waits_for, refusal_to_submit}
pub use Rattle.act_rules.specs.Submissions.{IsLimit}
-- its handles
pub use Rattle.act_owner.specs.Owner.{with_handles, release_told, kill_told}
pub use Rattle.act_handles.specs.Handles.{copies_in, given_in, with_copy, without_copy, copy_answer, or_else}
pub use Rattle.act_rules.specs.Submissions.{copies_held}
-- deaths that it knows
pub use Rattle.act_owner.specs.Owner.{is_known_dead, is_death, KnowsDeath}
-- laws of its whole life
pub use Rattle.act_owner.specs.Life.{NeverAboveTheLimit, OnePacketForGood, KnownCallsStayKnown, AllIsHeard, SentStaysSent}
-- the numbers from 1 on
pub use Rattle.act_rules.specs.Report.{one_to}
