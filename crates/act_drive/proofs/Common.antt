-- The names of specifications and of the crates below that most proofs here cite, passed on from one place.
pub use Rattle.act_actor.specs.Actor.{HasRunCall, item_of, next_call, reply_of_run}
pub use Rattle.act_actor.specs.StateViews.{live_view}
pub use Rattle.act_actor.specs.View.{ActorView, LiveView}
pub use Rattle.act_drive.specs.CallerTraces.{IsAskedAfter, IsCallerTrace, IsPostedAfter, caller_clock}
pub use Rattle.act_drive.specs.Coded.{HasConcluded, HasRunCode}
pub use Rattle.act_drive.specs.Driven.{AreAnswered, AreAsked, AreDistinct, AreKillEndpoints, AreNoted, AreTwo, FollowsBy, FollowsSteps, HasAsked, HasDone}
pub use Rattle.act_drive.specs.Driven.{HasDriven, HasEndedAt, HasNamed, HasPosted, IsApart, IsCalling, IsDue, IsElsewhere, IsEndpoint, IsFreshCaller}
pub use Rattle.act_drive.specs.Driven.{IsFreshEndpoint, IsIdle, IsKeeping, IsKillEndpoint, IsNoted, IsPostedOnce, IsPosting, IsSent, IsThrough, IsUnusedCaller}
pub use Rattle.act_drive.specs.Driven.{KeptOn, LettersStandAtTheirEndpoints, MayBeSent, OnlyReleases, OwnerGoesOn, Stays, Waits, actor_of_letter, bare_ask}
pub use Rattle.act_drive.specs.Driven.{bare_post, future_of_letter, futures_in, is_note_letter, last_note, posted_in}
pub use Rattle.act_drive.specs.Lent.{Does, HasDrivenCode, IsAtWork}
pub use Rattle.act_drive.specs.PlanTraces.{DoesPlan, DoesStep, HasDonePlan, IsMeanwhile}
pub use Rattle.act_drive.specs.Sessions.{DoesMore, IsLater, OnlyHears, SessionView, Submits, call_refusal, first_answered, kills_of, session_view, use_refusal}
pub use Rattle.act_drive.specs.Tracing.{IsTracing, IsTracingClosed, OnlyWaits, Traces, TracesClosing, TracesPlan, TracesStep}
pub use Rattle.act_drive.specs.declared.caller.Driven.{Driven}
pub use Rattle.act_drive.specs.declared.driver.CallerLines.{CallerLines}
pub use Rattle.act_drive.specs.declared.driver.CallerPasses.{CallerPasses}
pub use Rattle.act_drive.specs.declared.driver.Driver.{Driver}
pub use Rattle.act_handles.proofs.Copies.{copy_copies, copy_holds, positive, release_copies}
pub use Rattle.act_handles.proofs.Lookups.{copies-opened, copies-with_copy, copies-with_copy-other, copies-with_number, copies-without_copy}
pub use Rattle.act_handles.proofs.Lookups.{copies-without_copy-other}
pub use Rattle.act_handles.specs.Handles.{actors_in, copies_in, given_in, or_else, with_copy, with_number, without_copy}
pub use Rattle.act_handles.specs.declared.handles.Handle.{Handle}
pub use Rattle.act_mailbox.proofs.Clocks.{all_zip_weaker, later_none, later_one, part_none, part_one, steps_more, timed_later, timed_push}
pub use Rattle.act_mailbox.specs.Controls.{ControlView}
pub use Rattle.act_mailbox.specs.Mails.{MailView}
pub use Rattle.act_mailbox.specs.Notices.{IsNoDeath, NamesPlace, RepliesView, ReplyExecView}
pub use Rattle.act_mailbox.specs.Passes.{PutterView, TakerView, new_putter, new_taker}
pub use Rattle.act_mailbox.specs.Traces.{AreTakenLater, IsTimed, clock, found_in, greatest, steps_in}
pub use Rattle.act_mailbox.specs.declared.control.Asked.{Asked}
pub use Rattle.act_mailbox.specs.declared.mail.Letter.{Letter}
pub use Rattle.act_mailbox.specs.declared.mail.Letter.TheVariants.{Call, Note}
pub use Rattle.act_mailbox.specs.declared.thread.Endpoint.{Endpoint}
pub use Rattle.act_owner.proofs.Life.{after_all-append, packet_stays, step}
pub use Rattle.act_owner.proofs.Told.{death_sent, hears_opened, hears_step, reply_sent, sent_stays}
pub use Rattle.act_owner.specs.Life.{CallerMayDo, CallerMayDoAll, Hears, after_action, after_actions, is_known_at, notice_of, notices_in}
pub use Rattle.act_owner.specs.Owner.{OwnerView, after_collect, after_reply_that, call_waits_for, first_ready, is_known_call, is_known_dead, is_of_call}
pub use Rattle.act_owner.specs.Owner.{is_ready, is_sent, opened_under, owner_limit, packet_at, packet_for, pending, refusal_to_submit, release_note}
pub use Rattle.act_owner.specs.Owner.{release_told, sending_refusal, with_death, with_handles, with_sent, with_submission}
pub use Rattle.act_owner.specs.declared.owner.Collected.TheVariants.{First, Late, Stray}
pub use Rattle.act_rules.proofs.Elements.{found_passes}
pub use Rattle.act_rules.proofs.Ended.{needs-none}
pub use Rattle.act_rules.proofs.Events.{calls_to-length}
pub use Rattle.act_rules.proofs.Lists.{All-two, option_or-none}
pub use Rattle.act_rules.specs.Actions.{Action, Copied, KillAsked, Noticed, Released, Sent, Submitted}
pub use Rattle.act_rules.specs.Consistent.{IsPrefix}
pub use Rattle.act_rules.specs.Plans.{Progress, do_step, done_by, first_bad, first_bad_from, holds, is_kill_of, is_refused, kills_to, nothing_done, occurrences}
pub use Rattle.act_rules.specs.RunList.{Answer}
pub use Rattle.act_rules.specs.Submissions.{calls_to, copies_held, copy_refusal, handle_refusal, kept_at, limit_refusal, needs, send_refusal, submit_refusal}
pub use Rattle.act_rules.specs.declared.history.RunItem.{RunItem}
pub use Rattle.act_rules.specs.declared.history.Submission.{Submission}
pub use Rattle.act_rules.specs.declared.outcome.HandleRefusal.{HandleRefusal}
pub use Rattle.act_rules.specs.declared.outcome.SendRefusal.TheVariants.{NotReady}
pub use Rattle.act_rules.specs.declared.outcome.SubmitRefusal.{SubmitRefusal}
pub use Rattle.act_rules.specs.declared.outcome.SubmitRefusal.TheVariants.{NoMemory, PendingLimit}
pub use Rattle.act_rules.specs.declared.script.Step.{Step}
pub use Rattle.act_rules.specs.declared.script.Step.TheVariants.{Await, Copy, Kill, Release, Submit}
pub use Rattle.act_types.specs.KindState.{KindState}
pub use Rattle.act_types.specs.declared.call.Arg.{Arg}
pub use Rattle.act_types.specs.declared.call.Method.{Method}
pub use Rattle.act_types.specs.declared.call.Notice.{Notice}
pub use Rattle.act_types.specs.declared.call.Notice.TheVariants.{Answered, Death}
pub use Rattle.act_types.specs.declared.call.Packet.{Packet}
pub use Rattle.act_types.specs.declared.call.ReleaseNote.{ReleaseNote}
pub use Rattle.act_types.specs.declared.call.Reply.{Reply}
pub use Rattle.std.proofs.Common.{All, AllPairs, Bool, Contains, Err, IfErr, IfNone, IfOk, IfSome, List, None, Ok, OnErr, OnOk, Option, Result, Some, [], ap}
pub use Rattle.std.proofs.Common.{append-nil, append_assoc, arith, false, filter, get_or, if◌then◌else◌, inl, inr, is_some, length, length-append, map, max}
pub use Rattle.std.proofs.Common.{nat_lt, not, option_map, option_to_list, refl, replicate, rules, set, slice_get, slice_set, subst, suc, sym, take, true}
pub use Rattle.std.proofs.Common.{unwrap_or, zero, zip, ℕ, ◌&&◌, ◌++◌, ◌+◌, ◌-◌, ◌<◌, ◌==◌, ◌||◌, ◌∙◌, ◌∷◌, ◌≡◌, ◌≢◌, ◌≤◌, ◌⊎◌}
pub use Rattle.std.proofs.Math.Seq.{map-set_same}
pub use Rattle.std.proofs.lemmas.Bool.{eq-eqb, ne_eqb, not-true, or_parts, or_right}
pub use Rattle.std.proofs.lemmas.Bool.Decides.{eqb_tells, leb_tells}
pub use Rattle.std.proofs.lemmas.Grind.{get_or-set_at}
pub use Rattle.std.proofs.lemmas.List.{get_or-map, get_or-replicate, get_or-set_other, get_or-set_same, get_or_append_left, get_or_default, get_or_past}
pub use Rattle.std.proofs.lemmas.List.{length-map, length-replicate, length-set, length_push, map-append, set-get_or, take-map, take_all, take_more}
pub use Rattle.std.proofs.lemmas.List.Elements.{All-append, All-cons, All-contains, All-head, All-nil, All-push, All-set, All-tail, All-weaker}
pub use Rattle.std.proofs.lemmas.List.Elements.{Contains-append_cases, Contains-append_left, Contains-append_right, Contains-push, Contains-push_cases}
pub use Rattle.std.proofs.lemmas.List.Elements.{filter-append, filter_map-append}
pub use Rattle.std.proofs.lemmas.List.Folds.{list_all_at}
pub use Rattle.std.proofs.lemmas.List.Kept.{AllPairs-cons}
pub use Rattle.std.proofs.lemmas.List.Quantifiers.{all_pairs_push, position-Some}
pub use Rattle.std.proofs.lemmas.Option.{slice_get_within, unwrap_or-slice_get}
pub use Rattle.std.proofs.lemmas.Slice.Zip.{all_zipped_more}
pub use Rattle.std.specs.List.{AllZip, flat_map, list_all, list_any, range_with_len}
pub use Rattle.std.specs.Option.{option_or}
pub use Rattle.std.specs.Result.{IsErrAnd}
pub use Rattle.std.specs.Vec.Iter.{into_iter_items}
