-- The names of specifications and of the crates below that most proofs here cite, passed on from one place.
pub use Rattle.act_actor.specs.Actor.{HasRunCall, HasRunFrom, MayRetire, RunsAtOnce, arrival_at, item_of, next_call, note_after_calls, note_arrival_at}
pub use Rattle.act_actor.specs.Actor.{packet_of_item, reply_of_run, with_packet}
pub use Rattle.act_actor.specs.StateViews.{live_view, retired_view}
pub use Rattle.act_actor.specs.View.{DeadView, LiveView, RetiredView}
pub use Rattle.act_inbox.proofs.Packets.{new_listed, waits_holding}
pub use Rattle.act_inbox.specs.Inbox.{HoldsNone, arrival_of, handed_of, is_listed, is_packet_of, next_of, was_handed, with_held}
pub use Rattle.act_lists.proofs.Lists.{slice_get_last, slice_get_more}
pub use Rattle.act_mailbox.proofs.Clocks.{all_zip_weaker, found_alone, found_more, found_one, later_none, later_one, part_none, part_one, steps_more}
pub use Rattle.act_mailbox.proofs.Clocks.{timed_later, timed_push}
pub use Rattle.act_mailbox.specs.Controls.{ControlExecView, looked_after}
pub use Rattle.act_mailbox.specs.Notices.{IsNoDeath, NamesPlace, RepliesView, ReplyExecView, new_exec}
pub use Rattle.act_mailbox.specs.Passes.{TakerView}
pub use Rattle.act_mailbox.specs.Traces.{AreTakenLater, IsTimed, clock, found_in, greatest, steps_in}
pub use Rattle.act_mailbox.specs.declared.control.Asked.{Asked}
pub use Rattle.act_mailbox.specs.declared.mail.Letter.{Letter}
pub use Rattle.act_mailbox.specs.declared.mail.Letter.TheVariants.{Call, Note}
pub use Rattle.act_mailbox.specs.declared.thread.Endpoint.{Endpoint}
pub use Rattle.act_rules.proofs.Finding.{find-None}
pub use Rattle.act_rules.proofs.Lists.{eq_turned, front_trans, range_push}
pub use Rattle.act_rules.proofs.RunLists.{items_of-push, state_after-push}
pub use Rattle.act_rules.proofs.Terminated.{nothing_follows-push}
pub use Rattle.act_rules.specs.Consistent.{IsPrefix}
pub use Rattle.act_rules.specs.History.{contains}
pub use Rattle.act_rules.specs.RunList.{Answer, NothingFollowsAnEnd, after_item, answer_at, answers_from, has_terminated, items_of, state_after}
pub use Rattle.act_rules.specs.declared.history.RunItem.{RunItem}
pub use Rattle.act_rules.specs.declared.outcome.Arrival.{Arrival}
pub use Rattle.act_rules.specs.declared.outcome.Arrival.TheVariants.{New, Repeat, Stranger}
pub use Rattle.act_rules.specs.Actions.{Action, CallRun, DeathTold, KillTaken, CallTaken, NoteTaken, Retirement}
pub use Rattle.act_actor.specs.Life.{ActorMayDo, ActorMayDoAll, call_run, has_died_in, has_ended_in, is_kill_taken, is_retirement, log_of}
pub use Rattle.act_serve.specs.ActorTraces.{IsActorTrace, IsActorTraced, IsGivenAfter, exec_clock, taking, kill_taken, letter_taken}
pub use Rattle.act_serve.specs.Served.{ExecPassesStay, HasServed, IsLogOf, IsReplyOf, IsUntaken, Killed, KillsOfDead, RepliesAreDue, Retired, Starved}
pub use Rattle.act_serve.specs.Served.{caller_at, endpoint_callers, first_note, note_in, place_of, replies_to, reply_notice, without_given}
pub use Rattle.act_serve.specs.Turns.{ActorGoesOn, EndpointsDiffer, HasCome, HasGone, HasLooked, HasReplied, HasReplies, IsAtItsEndpoint, IsFed, IsFreshExec}
pub use Rattle.act_serve.specs.Turns.{IsServing, IsTracedSoFar, PassesFit, PassesOf, has_next, is_endpoint_of, replied_to, with_death_given}
pub use Rattle.act_serve.specs.declared.letter.Received.{Received}
pub use Rattle.act_serve.specs.declared.letter.Received.TheVariants.{Nothing}
pub use Rattle.act_serve.specs.declared.turn.ExecPasses.{ExecPasses}
pub use Rattle.act_types.specs.KindState.{KindState}
pub use Rattle.act_types.specs.declared.call.Notice.{Notice}
pub use Rattle.act_types.specs.declared.call.Notice.TheVariants.{Answered, Death}
pub use Rattle.act_types.specs.declared.call.Packet.{Packet}
pub use Rattle.act_types.specs.declared.call.ReleaseNote.{ReleaseNote}
pub use Rattle.act_types.specs.declared.call.Reply.{Reply}
pub use Rattle.atomic_table.specs.Seated.{TableId}
pub use Rattle.std.proofs.Common.{All, AllPairs, Bool, Contains, Err, IfNone, IfOk, IfSome, List, None, Ok, OnErr, OnOk, Option, Result, Some, [], ap}
pub use Rattle.std.proofs.Common.{append-nil, append_assoc, arith, cond, drop, false, filter, filter_map, find, flat_map, get_or, inl, inr, is_some, length}
pub use Rattle.std.proofs.Common.{length-append, map, nat_lt, option_map, position, refl, rules, set, slice_get, subst, suc, sym, take, true, true≢false, zero}
pub use Rattle.std.proofs.Common.{zip, ℕ, ◌&&◌, ◌++◌, ◌+◌, ◌<◌, ◌==◌, ◌||◌, ◌∙◌, ◌∷◌, ◌≡◌, ◌≢◌, ◌≤◌, ◌⊎◌}
pub use Rattle.std.proofs.Math.Bool.{and-false}
pub use Rattle.std.proofs.Math.Seq.{get_or-append_seam, map-set_same}
pub use Rattle.std.proofs.lemmas.Bool.{cases_lt, eq-eqb, eqb-true, le-ltb, lt-ltb, ne_eqb}
pub use Rattle.std.proofs.lemmas.Bool.Decides.{eqb_tells}
pub use Rattle.std.proofs.lemmas.Grind.{get_or-set_at}
pub use Rattle.std.proofs.lemmas.List.{get_or-map, get_or-set_other, get_or_default, length-map, length-set, map-append}
pub use Rattle.std.proofs.lemmas.List.Concat.{flat_map-cons}
pub use Rattle.std.proofs.lemmas.List.Edits.{map_over_more}
pub use Rattle.std.proofs.lemmas.List.Elements.{All-cons, All-push, All-set, Contains-append_cases, Contains-append_left, Contains-append_right}
pub use Rattle.std.proofs.lemmas.List.Elements.{Contains-get_or, Contains-push, filter_map-append}
pub use Rattle.std.proofs.lemmas.List.Folds.{list_any-append, list_any_at}
pub use Rattle.std.proofs.lemmas.List.FromFn.{get_or-range_with_len}
pub use Rattle.std.proofs.lemmas.List.Quantifiers.{position-Some}
pub use Rattle.std.proofs.lemmas.List.Recursion.{max_bounds, max_least}
pub use Rattle.std.proofs.lemmas.List.Sums.{position_or_len_is}
pub use Rattle.std.proofs.lemmas.Slice.Zip.{all_zipped_more}
pub use Rattle.std.specs.List.{AllZip, cons_option, enumerate_from, list_any, position_or_len, range_with_len}
pub use Rattle.std.specs.Option.{option_or}
