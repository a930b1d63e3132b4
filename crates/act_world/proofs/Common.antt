-- The names of specifications and of the crates below that most proofs here cite, passed on from one place.
pub use Rattle.act_actor.specs.Actor.{HasRunCall, MayRetire, arrival_at, item_of, next_call, note_arrival_at, reply_of_run}
pub use Rattle.act_actor.specs.Cast.{ActorsDiffer, CallersDiffer}
pub use Rattle.act_actor.specs.Casts.{actor_limit, actor_spec, callers_named, limits_that_name}
pub use Rattle.act_actor.specs.StateViews.{live_view}
pub use Rattle.act_actor.specs.View.{ActorView, RetiredView}
pub use Rattle.act_actor.specs.declared.cast.Cast.{Cast}
pub use Rattle.act_handles.proofs.Lookups.{copies-opened, copies-with_copy, copies-with_copy-other, copies-with_number, copies-without_copy}
pub use Rattle.act_handles.proofs.Lookups.{copies-without_copy-other, given-opened, given-with_copy, given-with_number, given-with_number-other}
pub use Rattle.act_handles.proofs.Lookups.{given-without_copy}
pub use Rattle.act_handles.specs.Handles.{copies_in, copy_answer, given_in, with_copy, with_number, without_copy}
pub use Rattle.act_inbox.specs.Inbox.{IsDrained, IsOpened, arrival_of, handed_of, has_come, is_packet_of, next_of, note_after, note_arrival, note_of}
pub use Rattle.act_inbox.specs.Inbox.{waiting_after, waiting_packet}
pub use Rattle.act_lists.proofs.Lists.{contains_tail, get_set-other, get_set-same, slice_get_last, slice_get_more}
pub use Rattle.act_owner.proofs.Told.{is_death-only, none_dead}
pub use Rattle.act_owner.specs.Owner.{KnowsDeath, OwnerView, address_at, after_collect, after_reply_that, answer_after_death, call_waits_for, collect_result}
pub use Rattle.act_owner.specs.Owner.{collected_reply, is_death, is_of_call, is_sent, is_to, kill_told, numbered_call, opened_with, owner_limit as limit_known}
pub use Rattle.act_owner.specs.Owner.{packet_at, pending, refusal_to_submit, release_note, release_told, sending_refusal, with_death, with_handles, with_sent}
pub use Rattle.act_owner.specs.Owner.{with_submission}
pub use Rattle.act_owner.specs.declared.owner.Call.{Call}
pub use Rattle.act_owner.specs.declared.owner.Collected.{Collected}
pub use Rattle.act_owner.specs.declared.owner.Collected.TheVariants.{First, Late, Stray}
pub use Rattle.act_rules.proofs.AsSubmitted.{IsCallTo, calls_to-at}
pub use Rattle.act_rules.proofs.Ended.{contains_other, contains_push, ended_by, needs-none, not_terminated, run_needs, under-push}
pub use Rattle.act_rules.proofs.Events.{all_from_each, calls_to-length, collect_unrefused, telling_unrefused}
pub use Rattle.act_rules.proofs.Finding.{find-None, find-Some, position_or_len-Some}
pub use Rattle.act_rules.proofs.Growth.{Grows, added_grows, after_run_grows, calls_grow, calls_to_grow, runs_grow}
pub use Rattle.act_rules.proofs.Kept.{answer_of_stays}
pub use Rattle.act_rules.proofs.KindFaults.{answer_alive}
pub use Rattle.act_rules.proofs.Letters.{IsSoundLetter, calls_to-number, has_last, has_letter-at, has_letter-sound, is_letter-same, kept_extends, letter_is}
pub use Rattle.act_rules.proofs.Limits.{limit_above, limit_of-same}
pub use Rattle.act_rules.proofs.Lists.{All_at, All_more, All_weaker, enumerate_from-append, eq_turned, front_trans, length-filter_least, length-zip_same}
pub use Rattle.act_rules.proofs.Lists.{option_map-none, option_or-none, slice_get-enumerate_from, slice_get-filter, slice_get_front, whole_front}
pub use Rattle.act_rules.proofs.Order.{IsNext, next_item_is}
pub use Rattle.act_rules.proofs.Posts.{IsSoundPost, ran_on}
pub use Rattle.act_rules.proofs.RanAll.{AllNamed, Retires, copies_named, named_call, retires_step, world_retires}
pub use Rattle.act_rules.proofs.Retired.{IsSoundNote, calls_to-push, times-push}
pub use Rattle.act_rules.proofs.RunLists.{answer_at-push, state_after-push}
pub use Rattle.act_rules.proofs.Settling.{arguments_stay}
pub use Rattle.act_rules.proofs.Sound.{IsSound, consistent, sound_step, world_sound}
pub use Rattle.act_rules.proofs.Steps.{IsKept, after_all-append, after_all_keeps, after_keeps, outcomes-append}
pub use Rattle.act_rules.proofs.Table.{death_if, is_death_of, kept_of-collected, kept_of-same, kept_of-submitted, knows_dead, or_else}
pub use Rattle.act_rules.proofs.Unique.{held_call, held_submission, map-slice_get, rank}
pub use Rattle.act_rules.specs.Consistent.{Consistent, IsPrefix}
pub use Rattle.act_rules.specs.History.{ActorSpec, History, answer_in, answer_of, callers_in, calls_of, cast_of, contains, copies_of, count_pairs, first_answer}
pub use Rattle.act_rules.specs.History.{has_letter, is_caller, is_dead, is_done, is_drained, is_ended, is_item_of, is_letter, is_retired, kept_of, limit_of}
pub use Rattle.act_rules.specs.History.{names, next_item, opening, opening_of, ran_count, run_item, runs_of, under}
pub use Rattle.act_rules.specs.Laws.{history}
pub use Rattle.act_rules.specs.Rules.{Outcome, add_event, after, after_all, after_by, after_run, and_also, call_letter, deliver_refusal, did, did_collect}
pub use Rattle.act_rules.specs.Rules.{did_deliver, did_reply, did_run, is_last, letter_actor, outcome_by, outcome_of, outcomes, refusal_of}
pub use Rattle.act_rules.specs.Rules.{submission_refusal as history_refusal, unanswered, was_sent}
pub use Rattle.act_rules.specs.RunList.{Answer, after_item, answer_at, has_terminated, items_of, state_after}
pub use Rattle.act_rules.specs.Submissions.{IsLimit, calls_to, copies_held, copy_refusal, handle_refusal, is_earlier, kept_at, limit_refusal, needs, number_of}
pub use Rattle.act_rules.specs.Submissions.{send_refusal, settle, submit_refusal}
pub use Rattle.act_rules.specs.declared.event.Event.{Event}
pub use Rattle.act_rules.specs.declared.event.Event.TheVariants.{AskKill, Collect, Copy, Deliver, Release, Retire, Run, Send, Submit, TakeKill, Tell}
pub use Rattle.act_rules.specs.declared.history.Letter.{Letter}
pub use Rattle.act_rules.specs.declared.history.Letter.TheVariants.{Call as CallLetter, Note as NoteLetter}
pub use Rattle.act_rules.specs.declared.history.Post.{Post}
pub use Rattle.act_rules.specs.declared.history.Post.TheVariants.{Death as DeathPost, Reply as ReplyPost}
pub use Rattle.act_rules.specs.declared.history.RunItem.{RunItem}
pub use Rattle.act_rules.specs.declared.history.Submission.{Submission}
pub use Rattle.act_rules.specs.declared.outcome.Arrival.{Arrival}
pub use Rattle.act_rules.specs.declared.outcome.Arrival.TheVariants.{New, Repeat, Stranger}
pub use Rattle.act_rules.specs.declared.outcome.Did.{Did}
pub use Rattle.act_rules.specs.declared.outcome.Did.TheVariants.{Arrived, Asked, Copies, Died as DidDie, Future, Gap, Kept, Kept as DidKeep, Late as DidLate}
pub use Rattle.act_rules.specs.declared.outcome.Did.TheVariants.{Mail, Ran, Retired, Told}
pub use Rattle.act_rules.specs.declared.outcome.HandleRefusal.{HandleRefusal}
pub use Rattle.act_rules.specs.declared.outcome.HandleRefusal.TheVariants.{NoActor, NoHandle, TooManyCopies}
pub use Rattle.act_rules.specs.declared.outcome.SendRefusal.{SendRefusal}
pub use Rattle.act_rules.specs.declared.outcome.SubmitRefusal.{SubmitRefusal}
pub use Rattle.act_rules.specs.declared.outcome.WorldRefusal.{WorldRefusal}
pub use Rattle.act_rules.specs.declared.outcome.WorldRefusal.TheVariants.{ActorEnded, Handle, NoCaller, NoKill, NoMail, NoReply, NotDead, NotDrained, Sending}
pub use Rattle.act_rules.specs.declared.outcome.WorldRefusal.TheVariants.{Submit as SubmitRefused}
pub use Rattle.act_types.specs.KindState.{KindState}
pub use Rattle.act_types.specs.declared.call.Arg.{Arg}
pub use Rattle.act_types.specs.declared.call.Fault.TheVariants.{ActorDied}
pub use Rattle.act_types.specs.declared.call.KillNote.{KillNote}
pub use Rattle.act_types.specs.declared.call.Method.{Method}
pub use Rattle.act_types.specs.declared.call.Notice.{Notice}
pub use Rattle.act_types.specs.declared.call.Notice.TheVariants.{Answered, Death}
pub use Rattle.act_types.specs.declared.call.Packet.{Packet}
pub use Rattle.act_types.specs.declared.call.ReleaseNote.{ReleaseNote}
pub use Rattle.act_types.specs.declared.call.Reply.{Reply}
pub use Rattle.act_types.specs.declared.call.Settled.{Settled}
pub use Rattle.act_types.specs.declared.memory.NoMemory.{NoMemory}
pub use Rattle.act_world.specs.Headline.{IsConsistent, slot_log, world_calls, world_died, world_kept, world_log}
pub use Rattle.act_world.specs.IsReachedBy.{FollowsRules, HasPlayed, HasRoom, IsGrown, IsGrownBy, IsReachedBy, IsUnrefused, IsUnrefusedAt, IsUnrefusedThere}
pub use Rattle.act_world.specs.IsReachedBy.{is_memory}
pub use Rattle.act_world.specs.Memory.{TakesMemory, TakesMemoryAt, is_new_call, takes_memory}
pub use Rattle.act_world.specs.Network.{IsReplyNotice, NetworkView, entry_actor, is_owner, naming_refusal, packet_in, told_collected}
pub use Rattle.act_world.specs.Openings.{HasOwners}
pub use Rattle.act_world.specs.Refines.{IsDead, IsLive, IsOwnerAt, IsOwnerOf, IsRetired, IsStage, Refines, call_key, held_packet, is_death_to, is_note_of}
pub use Rattle.act_world.specs.Refines.{mail_entry, packet_as, packet_by_number, posted_notice, reply_as, reply_at}
pub use Rattle.act_world.specs.Shown.{ShowsNothing, ShowsWhatIsTold, all_new, calls_told, new_calls, new_runs, runs_told}
pub use Rattle.act_world.specs.Slots.{HasArrived, HasNoted, HasRunNext, HasTakenCall, HasTakenPacket, IsBrought, IsNewCall, IsRetiredIn, IsRun, bury_ended}
pub use Rattle.act_world.specs.Slots.{dead_slot, has_next_in_slot, is_dead_slot, is_live_slot, take_kill}
pub use Rattle.act_world.specs.Steps.{Steps, StepsThere}
pub use Rattle.act_world.specs.View.{Died, Ended, Runs, SlotView, Vacant, WorldOf, WorldView, slot_view, stage_of_slot, with_slots, world_view}
pub use Rattle.act_world.specs.declared.network.CallKey.{CallKey}
pub use Rattle.act_world.specs.declared.network.MailEntry.{MailEntry}
pub use Rattle.act_world.specs.declared.network.MailEntry.TheVariants.{Call as CallEntry, Note as NoteEntry}
pub use Rattle.act_world.specs.declared.network.MailedNotice.{MailedNotice}
pub use Rattle.act_world.specs.declared.slot.Slot.{Slot}
pub use Rattle.std.proofs.Common.{All, AllPairs, Bool, Err, IfNone, IfOk, IfSome, IsErrAnd, List, None, Ok, OnErr, OnOk, Option, Result, Some, [], ap}
pub use Rattle.std.proofs.Common.{append_assoc, arith, cond, count_by, drop, false, filter, find, flat_map, get_or, if◌then◌else◌, inl, inr, is_none, is_some}
pub use Rattle.std.proofs.Common.{length, length-append, length-set, map, nat_le, nat_lt, not, option_and_then, option_map, position, refl, replicate, rules}
pub use Rattle.std.proofs.Common.{slice_get, slice_index_or, slice_set, subst, suc, sym, take, true, unwrap_or, vec_capacity, vec_len, zero, zip, ℕ, ◌&&◌, ◌++◌}
pub use Rattle.std.proofs.Common.{◌+◌, ◌-◌, ◌<◌, ◌==◌, ◌||◌, ◌∙◌, ◌∷◌, ◌≡◌, ◌≢◌, ◌≤◌}
pub use Rattle.std.proofs.Math.Bool.{or-false, or-true}
pub use Rattle.std.proofs.Math.Seq.{drop-append_seam, drop-length, take-append_seam}
pub use Rattle.std.proofs.lemmas.Bool.{and_from, and_parts, eq-eqb, eqb-true, le-ltb, lt-ltb, ltb-true, ne_eqb, or_left, or_parts, or_right}
pub use Rattle.std.proofs.lemmas.Bool.Decides.{eqb_tells, leb_tells}
pub use Rattle.std.proofs.lemmas.Grind.{common_steps, flat_map-append}
pub use Rattle.std.proofs.lemmas.List.{append-nil, get_or-map, get_or-set_other, get_or-set_same, length-map, map-append, map-set, nil_from_length, set-get_or}
pub use Rattle.std.proofs.lemmas.List.{take-append-le, take_all, take_more}
pub use Rattle.std.proofs.lemmas.List.Elements.{All-filter, All-map, All-tail, filter-append}
pub use Rattle.std.proofs.lemmas.List.Folds.{find-append, find-set, find_past, list_any-append}
pub use Rattle.std.proofs.lemmas.List.FromFn.{length-enumerate_from}
pub use Rattle.std.proofs.lemmas.List.Kept.{AllPairs-filter}
pub use Rattle.std.proofs.lemmas.List.Quantifiers.{position-Some}
pub use Rattle.std.proofs.lemmas.List.Sums.{length-filter}
pub use Rattle.std.proofs.lemmas.Option.{get_or_from_slice_get, slice_get-get_or, slice_get-map, slice_get_cases, slice_get_past, slice_get_within}
pub use Rattle.std.proofs.lemmas.Option.{unwrap_or-slice_get}
pub use Rattle.std.proofs.lemmas.Result.{on_err_weaker}
pub use Rattle.std.specs.List.{AllByRecursion, Contains, enumerate_from, list_all, list_any}
pub use Rattle.std.specs.Option.{option_map_or, option_or}
pub use Rattle.std.specs.Result.{result_unwrap_or}
pub use Rattle.std.specs.Vec.Iter.{into_iter_items, into_iter_len}
