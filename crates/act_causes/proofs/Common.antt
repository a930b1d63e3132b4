-- The names of specifications and of the crates below that most proofs here cite, passed on from one place.
pub use Rattle.act_actor.specs.Actor.{HasRunCall, arrival_at, item_of as item_made, next_call, note_after_calls, note_arrival_at, packet_of_item, reply_of_run}
pub use Rattle.act_actor.specs.Life.{ActorMayDo, call_run, has_died_in, has_ended_in, is_kill_taken, is_retirement, log_of}
pub use Rattle.act_actor.specs.View.{ActorView, RetiredView}
pub use Rattle.act_actor.specs.declared.cast.Cast.{Cast}
pub use Rattle.act_causes.specs.Deeds.{AreCaused, IsCaused, IsGiven, IsLastNote, IsNamed, IsReplyGiven, IsSentCall, left_by, opened_of, owner_by}
pub use Rattle.act_causes.specs.Merge.{AreBelow, IsFrontBelow, IsMergeOf, NeverFall, Threads, site_number}
pub use Rattle.act_causes.specs.Plays.{IsEventOf, IsPlayOfDeeds, SpecsFit}
pub use Rattle.act_handles.specs.Handles.{copies_in, or_else, with_copy, without_copy}
pub use Rattle.act_inbox.proofs.Lanes.{one_more}
pub use Rattle.act_inbox.proofs.Opening.{no_notes, opened, opened_is_inbox}
pub use Rattle.act_inbox.proofs.Packets.{listed_next, new_tells, unlisted_next, waits_holding}
pub use Rattle.act_inbox.proofs.Taking.{next_taken, sound_then}
pub use Rattle.act_inbox.specs.Inbox.{InboxView, IsNextTaken, IsOpened, arrival_of, handed_of, is_lane_of, lane_at_first, lane_of, next_of, note_of, with_held}
pub use Rattle.act_inbox.specs.View.{IsInbox}
pub use Rattle.act_inbox.specs.declared.inbox.Lane.{Lane}
pub use Rattle.act_lists.proofs.Lists.{contains_tail, get_set-other, get_set-same, slice_get_pushed}
pub use Rattle.act_mailbox.specs.Traces.{found_in, steps_in}
pub use Rattle.act_owner.proofs.Life.{after_all-append, packet_stays_all, places_all, step}
pub use Rattle.act_owner.proofs.Told.{sent_stays_all}
pub use Rattle.act_owner.specs.Life.{CallerMayDo, after_action, after_actions, is_known_at}
pub use Rattle.act_owner.specs.Owner.{KnowsDeath, OwnerView, address_at, after_collect, after_reply_that, collect_result, is_known_dead}
pub use Rattle.act_owner.specs.Owner.{is_known_dead as knows_dead, is_of_call, is_sent, opened_under, opened_with, packet_at, packet_for}
pub use Rattle.act_owner.specs.Owner.{packet_for as packet_made, refusal_to_submit, release_note, sending_refusal, with_death, with_handles, with_sent}
pub use Rattle.act_owner.specs.Owner.{with_submission}
pub use Rattle.act_owner.specs.declared.owner.Collected.TheVariants.{First, Late, Stray}
pub use Rattle.act_plans.specs.Runs.{cast_at, limits_naming}
pub use Rattle.act_rules.proofs.Ended.{contains_more, needs-none, under-push}
pub use Rattle.act_rules.proofs.Events.{run_collected, some_cast}
pub use Rattle.act_rules.proofs.Finding.{find-None, find-Some, find-tells, position_or_len-Some}
pub use Rattle.act_rules.proofs.Growth.{Grows, added_grows}
pub use Rattle.act_rules.proofs.Letters.{IsSoundLetter, calls_to-number, has_front, has_last, letter_place}
pub use Rattle.act_rules.proofs.Lists.{All-two, AllPairs-map, All_at, All_more, more_front, option_map-none, slice_get_front, whole_front}
pub use Rattle.act_rules.proofs.Posts.{next_item_caller, ran_on}
pub use Rattle.act_rules.proofs.RanAll.{AllNamed, named_call}
pub use Rattle.act_rules.proofs.Retired.{gone_step, times-push}
pub use Rattle.act_rules.proofs.Steps.{IsKept, outcomes-append}
pub use Rattle.act_rules.specs.Actions.{Action, Actor, CallRun, CallTaken, Caller, Copied, DeathTold, KillAsked, KillTaken, NoteTaken, Noticed, Released}
pub use Rattle.act_rules.specs.Actions.{Retirement, Sent, Site, Submitted, action_at, actions_of, is_site}
pub use Rattle.act_rules.specs.Consistent.{IsPrefix}
pub use Rattle.act_rules.specs.History.{ActorSpec, History, answer_of, calls_of, cast_of, contains, copies_of, count_pairs, first_answer, has_letter, is_caller}
pub use Rattle.act_rules.specs.History.{is_dead, is_ended, is_retired, kept_of, names, next_item, opening, ran_count, run_item, runs_of, under}
pub use Rattle.act_rules.specs.Laws.{history}
pub use Rattle.act_rules.specs.Rules.{Outcome, add_event, after, after_by, after_run, and_also, did, is_last, outcome_by, outcome_of, outcomes, refusal_of}
pub use Rattle.act_rules.specs.Rules.{was_sent}
pub use Rattle.act_rules.specs.RunList.{Answer, after_item, answer_at, has_terminated, items_of}
pub use Rattle.act_rules.specs.Submissions.{calls_to, copies_held, copy_refusal, handle_refusal, is_known, kept_at, needs, number_of, send_refusal}
pub use Rattle.act_rules.specs.declared.event.Event.{Event}
pub use Rattle.act_rules.specs.declared.event.Event.TheVariants.{AskKill, Collect, Copy, Deliver, Release, Retire, Run, Send, Submit, TakeKill, Tell}
pub use Rattle.act_rules.specs.declared.history.Letter.{Letter}
pub use Rattle.act_rules.specs.declared.history.Letter.TheVariants.{Call as CallLetter, Note as NoteLetter}
pub use Rattle.act_rules.specs.declared.history.Post.{Post}
pub use Rattle.act_rules.specs.declared.history.Post.TheVariants.{Death as DeathPost, Reply as ReplyPost}
pub use Rattle.act_rules.specs.declared.history.RunItem.{RunItem}
pub use Rattle.act_rules.specs.declared.history.Submission.{Submission}
pub use Rattle.act_rules.specs.declared.outcome.Arrival.{Arrival}
pub use Rattle.act_rules.specs.declared.outcome.Arrival.TheVariants.{New, Repeat, Stranger}
pub use Rattle.act_rules.specs.declared.outcome.Did.{Did}
pub use Rattle.act_rules.specs.declared.outcome.Did.TheVariants.{Arrived, Asked, Copies, Dead, Future, Mail, Ran as DidRun, Retired as DidRetire, Told}
pub use Rattle.act_rules.specs.declared.outcome.HandleRefusal.{HandleRefusal}
pub use Rattle.act_rules.specs.declared.outcome.HandleRefusal.TheVariants.{NoActor, NoHandle, TooManyCopies}
pub use Rattle.act_rules.specs.declared.outcome.SendRefusal.TheVariants.{NotReady}
pub use Rattle.act_rules.specs.declared.outcome.WorldRefusal.{WorldRefusal}
pub use Rattle.act_rules.specs.declared.outcome.WorldRefusal.TheVariants.{Handle, NoCaller, NoReply}
pub use Rattle.act_types.specs.KindState.{CounterAt, KindState}
pub use Rattle.act_types.specs.declared.call.Arg.{Arg}
pub use Rattle.act_types.specs.declared.call.Arg.TheVariants.{Plain}
pub use Rattle.act_types.specs.declared.call.KillNote.{KillNote}
pub use Rattle.act_types.specs.declared.call.Method.{Method}
pub use Rattle.act_types.specs.declared.call.Notice.{Notice}
pub use Rattle.act_types.specs.declared.call.Notice.TheVariants.{Answered, Death}
pub use Rattle.act_types.specs.declared.call.Packet.{Packet}
pub use Rattle.act_types.specs.declared.call.ReleaseNote.{ReleaseNote}
pub use Rattle.act_types.specs.declared.call.Reply.{Reply}
pub use Rattle.act_types.specs.declared.call.Settled.TheVariants.{Good}
pub use Rattle.act_world.proofs.Asking.{ask_follows}
pub use Rattle.act_world.proofs.Collecting.{collect_follows}
pub use Rattle.act_world.proofs.Copying.{copy_follows}
pub use Rattle.act_world.proofs.Delivering.{deliver_follows}
pub use Rattle.act_world.proofs.Frames.{not_owner, still_lives}
pub use Rattle.act_world.proofs.Killing.{contains-last, kill_follows}
pub use Rattle.act_world.proofs.Lawful.{IsLawful, IsNamedLetter, lawful_step, named_caller, world_lawful}
pub use Rattle.act_world.proofs.NextCall.{item_is, next_is}
pub use Rattle.act_world.proofs.OneCaller.{needs_holds}
pub use Rattle.act_world.proofs.OpenedOwners.{nothing_asked, owners_opened}
pub use Rattle.act_world.proofs.RanOn.{runs_here, runs_other}
pub use Rattle.act_world.proofs.Releasing.{last_follows, release_follows}
pub use Rattle.act_world.proofs.Retiring.{retire_follows}
pub use Rattle.act_world.proofs.Running.{run_follows}
pub use Rattle.act_world.proofs.Seeing.{is_named}
pub use Rattle.act_world.proofs.Sending.{send_follows}
pub use Rattle.act_world.proofs.Submitting.{submit_follows}
pub use Rattle.act_world.specs.Network.{NetworkView, entry_actor, is_owner, named_as, naming_refusal, packet_in, told_collected}
pub use Rattle.act_world.specs.Refines.{IsLive, IsOwnerAt, IsOwnerOf, IsStage, Refines, call_key, is_death_to, is_note_of, mail_entry, posted_notice, reply_as}
pub use Rattle.act_world.specs.Refines.{reply_at}
pub use Rattle.act_world.specs.Slots.{HasArrived, HasNoted, HasRunNext, HasTakenCall, HasTakenPacket, bury_ended, dead_slot, is_dead_slot}
pub use Rattle.act_world.specs.View.{Died, Ended, Runs, SlotView, Vacant, WorldView}
pub use Rattle.act_world.specs.declared.network.CallKey.{CallKey}
pub use Rattle.act_world.specs.declared.network.MailEntry.{MailEntry}
pub use Rattle.act_world.specs.declared.network.MailEntry.TheVariants.{Call as CallEntry, Note as NoteEntry}
pub use Rattle.act_world.specs.declared.network.MailedNotice.{MailedNotice}
pub use Rattle.std.proofs.Common.{All, AllPairs, Bool, Contains, IfSome, IsOk, List, None, Ok, Option, Some, [], ap, arith, cond, false, filter, filter_map}
pub use Rattle.std.proofs.Common.{find, get_or, inl, inr, is_some, length, map, nat_le, nat_lt, option_and_then, option_map, pos, position, refl, replicate}
pub use Rattle.std.proofs.Common.{slice_get, slice_index_or, slice_set, subst, suc, sym, true, unwrap_or, zero, ℕ, ◌&&◌, ◌++◌, ◌+◌, ◌-◌, ◌<◌, ◌==◌, ◌||◌, ◌∙◌}
pub use Rattle.std.proofs.Common.{◌∷◌, ◌≡◌, ◌≢◌, ◌≤◌, ◌⊎◌}
pub use Rattle.std.proofs.Math.Bool.{or-false}
pub use Rattle.std.proofs.lemmas.Bool.{and_parts, eq-eqb, eqb-true, leb-false, leb-true, ltb-true}
pub use Rattle.std.proofs.lemmas.Bool.Decides.{eqb_tells, leb_tells}
pub use Rattle.std.proofs.lemmas.List.{append-nil, append_assoc, get_or-set_same, length-set}
pub use Rattle.std.proofs.lemmas.List.Elements.{All-cons, All-contains, All-from_recursion, All-nil, Contains-push_cases, filter_map-append, recursion_from_All}
pub use Rattle.std.proofs.lemmas.List.Folds.{find-set, find_past, list_any-append}
pub use Rattle.std.proofs.lemmas.List.FromFn.{get_or-map-range_with_len, length-map-range_with_len}
pub use Rattle.std.proofs.lemmas.List.Kept.{AllPairs-cons}
pub use Rattle.std.proofs.lemmas.List.Quantifiers.{position-Some}
pub use Rattle.std.proofs.lemmas.Option.{slice_get-get_or, slice_get_past, slice_get_within}
pub use Rattle.std.proofs.lemmas.Simd.{map-map}
pub use Rattle.std.specs.List.{AllByRecursion, AllZip, cons_option, enumerate_from, list_all, list_any, range_with_len}
