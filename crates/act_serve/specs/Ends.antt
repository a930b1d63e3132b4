-- How an actor ended, and what its log and its executor's endpoints name.
use Rattle.std.specs.Prelude.{ℕ, List, map, slice_index_or}
use Rattle.act_types.specs.KindState.{KindState}
use Rattle.act_rules.specs.declared.history.RunItem.{RunItem}
use Rattle.act_actor.specs.View.{DeadView, RetiredView}
use Rattle.act_actor.specs.StateViews.{retired_view}
use Rattle.act_mailbox.specs.Notices.{RepliesView, ReplyExecView}
use Rattle.act_mailbox.specs.declared.thread.Endpoint.{Endpoint}
use Rattle.act_serve.specs.declared.turn.Ended.{Ended}
use Rattle.act_serve.specs.declared.turn.Ended.TheVariants as ended

pub data EndView : Type 0 where
  Killed : (dead : DeadView) → EndView
  Retired : (retired : RetiredView) → EndView
  Starved : (dead : DeadView) → EndView

abbrev pub end_view : {K L : Type 0} → (K → KindState) → Ended K L → EndView
end_view state (ended.Killed dead) = Killed dead
end_view state (ended.Retired retired) = Retired (retired_view state retired)
end_view state (ended.Starved dead) = Starved dead

abbrev pub end_id : EndView → ℕ
end_id (Killed dead) = dead.id
end_id (Retired retired) = retired.id
end_id (Starved dead) = dead.id

abbrev pub end_log : EndView → List RunItem
end_log (Killed dead) = dead.log
end_log (Retired retired) = retired.log
end_log (Starved dead) = dead.log

-- the caller whose line stands at a place
abbrev pub caller_at : List RepliesView → ℕ → ℕ
caller_at lines place = slice_index_or (map (λ line. line.caller) lines) place 0

-- the callers of an executor's endpoints
abbrev pub endpoint_callers : List RepliesView → List (Endpoint ReplyExecView) → List ℕ
endpoint_callers lines endpoints = map (λ endpoint. caller_at lines endpoint.place) endpoints
