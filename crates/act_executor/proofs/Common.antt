-- The names of specifications and of the crates below that most proofs here cite, passed on from one place.
pub use Rattle.act_actor.proofs.Pairs.{differ_more, differ_not, pairs_all}
pub use Rattle.act_actor.specs.Actor.{note_after_calls, packet_of_item}
pub use Rattle.act_actor.specs.Cast.{ActorsDiffer, CallersDiffer, IsFitting}
pub use Rattle.act_actor.specs.Casts.{actor_spec}
pub use Rattle.act_actor.specs.Life.{ActorMayDo, ActorMayDoAll, call_run, has_died_in, has_ended_in, is_kill_taken, is_retirement, log_of}
pub use Rattle.act_actor.specs.View.{LiveView}
pub use Rattle.act_actor.specs.declared.cast.Cast.{Cast}
pub use Rattle.act_causes.proofs.Example.{all_one}
pub use Rattle.act_causes.proofs.Found.{found_from, found_is as found_alone, place_in_front}
pub use Rattle.act_causes.proofs.Fronts.{EachFront, IsStepwisePlay, KeepsAnswers, letter_of, post_of}
pub use Rattle.act_causes.proofs.Merging.{merge_of}
pub use Rattle.act_causes.proofs.Replaying.{play_of}
pub use Rattle.act_causes.proofs.Sites.{action_here, deed_is, deed_of}
pub use Rattle.act_causes.specs.Deeds.{AreCaused, IsCaused, IsGiven, IsLastNote, IsNamed, IsReplyGiven, IsSentCall, MayDo, MayDoAll, left_by, opened_of}
pub use Rattle.act_causes.specs.Deeds.{owner_by}
pub use Rattle.act_causes.specs.Merge.{AreBelow, IsFrontBelow, IsMergeOf, Threads, site_number}
pub use Rattle.act_causes.specs.Plays.{IsEventOf, IsPlayOfRun, SpecsFit}
pub use Rattle.act_drive.proofs.Drivers.{notice_keeps}
pub use Rattle.act_drive.specs.CallerTraces.{IsAskedAfter, IsCallerTrace, IsPostedAfter}
pub use Rattle.act_drive.specs.Coded.{HasConcluded}
pub use Rattle.act_drive.specs.Driven.{AreAsked, AreDistinct, AreKillEndpoints, AreTwo, HasAsked, HasPosted, IsFreshCaller, IsFreshEndpoint, IsKillEndpoint}
pub use Rattle.act_drive.specs.Driven.{IsSent, IsUnusedCaller, bare_ask, bare_post}
pub use Rattle.act_drive.specs.PlanTraces.{DoesPlan, DoesStep, HasDonePlan, IsMeanwhile, IsMeanwhile as IsMeanwhileStep}
pub use Rattle.act_drive.specs.Sessions.{SessionView}
pub use Rattle.act_drive.specs.declared.caller.Driven.{Driven}
pub use Rattle.act_drive.specs.declared.driver.CallerLines.{CallerLines}
pub use Rattle.act_drive.specs.declared.driver.CallerPasses.{CallerPasses}
pub use Rattle.act_executor.specs.Audits.{ActorLeft, CallerTold, HasEndpoints, IsTold, IsToldAt, KillTold, LetterTold, NoticeTold, SitsAt, SitsAtControl}
pub use Rattle.act_executor.specs.Audits.{SitsAtMail, SitsAtReplies, left_of}
pub use Rattle.act_executor.specs.ByCode.{AreJoinedBy, HasTold, IsDrivenBy, IsJoinedBy, IsPlayedBy, code_of}
pub use Rattle.act_executor.specs.Conducts.{CodesFit, Doing, HasConducted, does_code, does_plan}
pub use Rattle.act_executor.specs.Groups.{AreGrown, AreHands, endpoint_at, endpoints_from, group_of, items_of_vec}
pub use Rattle.act_executor.specs.Joined.{CallsThatDiedNeverRan, IsJoined, RanAll, calls_in, calls_of_owner, end_of, is_killed, is_killed_end, is_starved}
pub use Rattle.act_executor.specs.Joined.{kept_in, kept_of_owner, killed_in, log_in, log_of_end, owner_of}
pub use Rattle.act_executor.specs.Joins.{AreDriven, AreServed, AreStarters, IsDrivenAt}
pub use Rattle.act_executor.specs.Left.{AreAudited, AreCasts, AreJoined, IsDriven, IsServed, KillsAudited, LettersAudited, NoticesAudited, ServedView}
pub use Rattle.act_executor.specs.Opened.{AreAtLines, AreLines, AreOpened, ArePaired, IsCaller, IsExec}
pub use Rattle.act_executor.specs.PlanPlays.{CollectsInLine, DoesPlanIn, DoesStepIn, IsPlayOfPlans, IsPlayedAsPlanned, is_between, step_of}
pub use Rattle.act_executor.specs.Plays.{HasEndedIn, IsEndIn, IsOwnerIn, IsPlayOf, IsPlayed}
pub use Rattle.act_executor.specs.Runs.{HasRun, HasRunPlans, IsFault, IsPrepared, IsThreadFault, fault_of, plan_view}
pub use Rattle.act_executor.specs.SoFar.{AreMade, made_of}
pub use Rattle.act_executor.specs.Traced.{AreTraced, IsCallPosted, IsNotePosted, IsReplyGivenBy, TracedRunsArePlayed, WasDone, WasGiven}
pub use Rattle.act_executor.specs.Work.{ActorStart, CallerStart, CanDrive, CanServe, IsAsked, IsDrivenTo, IsServedBy, IsUnusedStarter, MayDrive, MayServe}
pub use Rattle.act_executor.specs.Work.{cast_start, driving_start, serving_start, setup_start}
pub use Rattle.act_executor.specs.declared.joined.Joined.{Joined}
pub use Rattle.act_executor.specs.declared.open.Lines.{Lines}
pub use Rattle.act_executor.specs.declared.open.Opened.{Opened}
pub use Rattle.act_executor.specs.declared.open.OpenedLines.{OpenedLines}
pub use Rattle.act_executor.specs.declared.run.RunFault.{RunFault}
pub use Rattle.act_executor.specs.declared.work.Driving.{Driving}
pub use Rattle.act_executor.specs.declared.work.Serving.{Serving}
pub use Rattle.act_handles.proofs.Lookups.{copies-opened, copies-with_copy, copies-with_copy-other, copies-with_number, copies-without_copy}
pub use Rattle.act_handles.proofs.Lookups.{copies-without_copy-other}
pub use Rattle.act_handles.proofs.Places.{actors_opened}
pub use Rattle.act_handles.specs.Handles.{actors_in, copies_in, with_copy, without_copy}
pub use Rattle.act_handles.specs.declared.handles.Handle.{Handle}
pub use Rattle.act_lists.proofs.Lists.{all_from_places, element}
pub use Rattle.act_lists.proofs.Options.{cond_gives}
pub use Rattle.act_mailbox.proofs.Clocks.{found_more}
pub use Rattle.act_mailbox.specs.Controls.{ControlExecView, ControlView, asker_of, starter}
pub use Rattle.act_mailbox.specs.Lines.{items_from, items_from as items_put}
pub use Rattle.act_mailbox.specs.Mails.{MailView, caller_of}
pub use Rattle.act_mailbox.specs.Notices.{IsNoDeath, RepliesView, ReplyExecView, new_exec, notice_actor}
pub use Rattle.act_mailbox.specs.Passes.{PutterView, TakerView, new_putter}
pub use Rattle.act_mailbox.specs.Traces.{AreTakenLater, IsTimed, clock, found_in, steps_in}
pub use Rattle.act_mailbox.specs.declared.control.Asked.{Asked}
pub use Rattle.act_mailbox.specs.declared.mail.Letter.{Letter}
pub use Rattle.act_mailbox.specs.declared.mail.Letter.TheVariants.{Call, Note}
pub use Rattle.act_mailbox.specs.declared.thread.Endpoint.{Endpoint}
pub use Rattle.act_owner.proofs.Life.{after_all-append, packet_stays_all, places_all, step}
pub use Rattle.act_owner.proofs.Told.{is_death-only}
pub use Rattle.act_owner.specs.Life.{CallerMayDo, CallerMayDoAll, IsBereft, IsReplied, IsToldBy, after_action, after_actions, is_known_at, notice_of}
pub use Rattle.act_owner.specs.Owner.{OwnerView, after_collect, after_reply_that, is_death, is_known_call, is_known_dead, is_of_call, is_sent, is_to}
pub use Rattle.act_owner.specs.Owner.{opened_under, opened_with, owner_limit, packet_at, packet_for, packet_for as packet_of_call, pending, refusal_to_submit}
pub use Rattle.act_owner.specs.Owner.{sending_refusal, with_death}
pub use Rattle.act_owner.specs.declared.owner.Collected.TheVariants.{First, Late, Stray}
pub use Rattle.act_plans.proofs.ActorSpecs.{actors_are, actors_view, bad_view, each_cast_view, limits_are, plans_are, setups_view}
pub use Rattle.act_plans.proofs.Keys.{pairs_of_map}
pub use Rattle.act_plans.proofs.Matching.{numbers_differ}
pub use Rattle.act_plans.proofs.Taking.{find_some, others_stay}
pub use Rattle.act_plans.specs.Prepared.{HasNumbers, bad_of_setup, by_rising_actor}
pub use Rattle.act_plans.specs.Runs.{actors_of_casts, callers_of_casts, cast_at, first_bad_plan, limits_naming, plan_of, steps_of_plan}
pub use Rattle.act_plans.specs.Setups.{AreMatched, HasLimits}
pub use Rattle.act_plans.specs.declared.rising.CallerSetup.{CallerSetup}
pub use Rattle.act_plans.specs.declared.rising.Prepared.{Prepared}
pub use Rattle.act_rules.proofs.AsSubmitted.{calls_to-at, filter-slice_get}
pub use Rattle.act_rules.proofs.Elements.{Finds, IsIn, all_by_places, all_in, any_is, contains_from_in, contains_is, empty_by_places, enumerated, finds}
pub use Rattle.act_rules.proofs.Elements.{found_is, front_by_places, in_filter, in_first, in_from_contains, in_front, in_none, is_contained, range_at}
pub use Rattle.act_rules.proofs.Elements.{some_long}
pub use Rattle.act_rules.proofs.Ended.{needs-none}
pub use Rattle.act_rules.proofs.Finding.{find-None}
pub use Rattle.act_rules.proofs.Growth.{added_grows}
pub use Rattle.act_rules.proofs.Kept.{answer_at-front, kept_at_is, kept_by}
pub use Rattle.act_rules.proofs.Letters.{calls_to-number}
pub use Rattle.act_rules.proofs.Lists.{All-two, AllPairs-map, All_at, All_more, IsPrefix-map, find-map, front_trans, front_whole, length-zip_same, list_any-map}
pub use Rattle.act_rules.proofs.Lists.{option_or-none, range_push, slice_get-enumerate_from, slice_get-filter, slice_get_front, whole_front}
pub use Rattle.act_rules.proofs.Order.{numbered, numbers}
pub use Rattle.act_rules.proofs.Places.{all_at, all_names, all_through, any_default, apart_at, append_over, as_long, at_both, at_other, contains_name}
pub use Rattle.act_rules.proofs.Places.{has_contains, map_apart, nothing_zips, pairs_weaker, same_at, told_next}
pub use Rattle.act_rules.proofs.Retired.{calls_to-push}
pub use Rattle.act_rules.proofs.Sound.{IsSound, consistent, reply_alive, world_sound}
pub use Rattle.act_rules.proofs.Steps.{after_all_keeps}
pub use Rattle.act_rules.proofs.Unique.{map-slice_get, same_place}
pub use Rattle.act_rules.specs.Actions.{Action, Actor, CallRun, CallTaken, Caller, Copied, DeathTold, KillAsked, KillTaken, NoteTaken, Noticed, Released}
pub use Rattle.act_rules.specs.Actions.{Retirement, Sent, Site, Submitted, action_at, actions_of}
pub use Rattle.act_rules.specs.Consistent.{Consistent, IsAsSubmitted, IsCallToDead, IsPrefix}
pub use Rattle.act_rules.specs.History.{ActorSpec, History, actors_naming, answer_in, answer_of, calls_of, contains, first_answer, is_dead, is_item_of}
pub use Rattle.act_rules.specs.History.{is_retired, kept_of, opening, opening_of, runs_of}
pub use Rattle.act_rules.specs.Laws.{history}
pub use Rattle.act_rules.specs.Plans.{Progress, do_step, done_by, first_bad, holds, is_refused, kills_to, nothing_done, occurrences, planned}
pub use Rattle.act_rules.specs.Report.{one_to}
pub use Rattle.act_rules.specs.RunList.{Answer, NothingFollowsAnEnd, answer_at, has_terminated, items_of}
pub use Rattle.act_rules.specs.Submissions.{calls_to, copy_refusal, handle_refusal, is_known, kept_at, limit_refusal, number_of, send_refusal, settle}
pub use Rattle.act_rules.specs.Submissions.{submit_refusal}
pub use Rattle.act_rules.specs.declared.event.Event.{Event}
pub use Rattle.act_rules.specs.declared.history.Letter.{Letter as SentLetter}
pub use Rattle.act_rules.specs.declared.history.Post.{Post}
pub use Rattle.act_rules.specs.declared.history.Post.TheVariants.{Death as DeathPost, Reply as ReplyPost}
pub use Rattle.act_rules.specs.declared.history.RunItem.{RunItem}
pub use Rattle.act_rules.specs.declared.history.Submission.{Submission}
pub use Rattle.act_rules.specs.declared.outcome.SendRefusal.TheVariants.{NotReady}
pub use Rattle.act_rules.specs.declared.script.Step.{Step}
pub use Rattle.act_rules.specs.declared.script.Step.TheVariants.{Await, Await as AwaitStep, Copy, Copy as CopyStep, Kill, Kill as KillStep, Release}
pub use Rattle.act_rules.specs.declared.script.Step.TheVariants.{Release as ReleaseStep, Submit, Submit as SubmitStep}
pub use Rattle.act_serve.proofs.Answered.{replies_answer, replies_are_due}
pub use Rattle.act_serve.proofs.Clocks.{contains_map}
pub use Rattle.act_serve.specs.ActorTraces.{IsActorTrace, IsActorTraced, IsGivenAfter, exec_clock, kill_taken, letter_taken, taking}
pub use Rattle.act_serve.specs.Served.{EndView, HasDrained, HasServed, IfRetired, IsAnswerOf, IsLogOf, IsReplyOf, IsTakenAt, Killed, KillsOfDead, KillsTaken}
pub use Rattle.act_serve.specs.Served.{Retired, Retired as RetiredEnd, Starved, caller_at, deaths, end_id, end_log, end_view, endpoint_callers, first_note}
pub use Rattle.act_serve.specs.Served.{note_in, place_of, places_of, replies_to, without_given}
pub use Rattle.act_serve.specs.Turns.{EndpointsDiffer, IsAtItsEndpoint}
pub use Rattle.act_serve.specs.declared.turn.ExecPasses.{ExecPasses}
pub use Rattle.act_serve.specs.declared.turn.Finished.{Finished}
pub use Rattle.act_tasks.proofs.Lists.{each_snoc}
pub use Rattle.act_tasks.specs.Each.{Each}
pub use Rattle.act_tasks.specs.declared.Refusal.{Refusal}
pub use Rattle.act_types.specs.KindState.{CounterAt, KindState}
pub use Rattle.act_types.specs.declared.call.Arg.{Arg}
pub use Rattle.act_types.specs.declared.call.Fault.TheVariants.{ActorDied}
pub use Rattle.act_types.specs.declared.call.KillNote.{KillNote}
pub use Rattle.act_types.specs.declared.call.Notice.{Notice}
pub use Rattle.act_types.specs.declared.call.Notice.TheVariants.{Answered, Death}
pub use Rattle.act_types.specs.declared.call.Packet.{Packet}
pub use Rattle.act_types.specs.declared.call.ReleaseNote.{ReleaseNote}
pub use Rattle.act_types.specs.declared.call.Reply.{Reply}
pub use Rattle.act_types.specs.declared.limits.TheConstants.{MAX_ACTORS, MAX_CALLERS}
pub use Rattle.act_world.proofs.Heard.{death_listed}
pub use Rattle.atomic_table.specs.Seated.{TableId}
pub use Rattle.std.proofs.Common.{All, AllPairs, Bool, Contains, Err, IfErr, IsErrAnd, IsTrue, List, None, Ok, Option, Result, Some, [], ap, append-nil}
pub use Rattle.std.proofs.Common.{append_assoc, arith, cond, drop, false, filter, filter_map, find, flat_map, get_or, if◌then◌else◌, inl, inr, is_some, length}
pub use Rattle.std.proofs.Common.{length-append, map, not, option_and_then, option_map, pos, refl, rules, set, slice_get, slice_index_or, subst, suc, sym, take}
pub use Rattle.std.proofs.Common.{true, true≢false, vec_capacity, vec_items, vec_len, zero, zip, ℕ, ◌&&◌, ◌++◌, ◌+◌, ◌-◌, ◌<◌, ◌==◌, ◌||◌, ◌∙◌, ◌∷◌, ◌≡◌, ◌≢◌}
pub use Rattle.std.proofs.Common.{◌≤◌, ◌⊎◌}
pub use Rattle.std.proofs.Math.Bool.{or-false}
pub use Rattle.std.proofs.Math.Seq.{map-set_same}
pub use Rattle.std.proofs.lemmas.Bool.{and_parts, eq-eqb, eqb-true, ne_eqb, not-true}
pub use Rattle.std.proofs.lemmas.Bool.Decides.{eqb_tells, leb_tells}
pub use Rattle.std.proofs.lemmas.List.{get_or-map, get_or_default, length-map, length-take-le, map-append, map_more, nil_from_length, same_lists, set-get_or}
pub use Rattle.std.proofs.lemmas.List.{take_all, take_more}
pub use Rattle.std.proofs.lemmas.List.Elements.{All-append, All-cons, All-contains, All-filter, All-from_recursion, All-head, All-map, All-nil, All-push}
pub use Rattle.std.proofs.lemmas.List.Elements.{All-tail, All-weaker, Contains-append_cases, Contains-append_right, filter-append, filter_map-append}
pub use Rattle.std.proofs.lemmas.List.Elements.{recursion_from_All}
pub use Rattle.std.proofs.lemmas.List.FromFn.{get_or-range_with_len, length-enumerate_from, length-range_with_len}
pub use Rattle.std.proofs.lemmas.List.Kept.{AllPairs-cons, AllPairs-filter}
pub use Rattle.std.proofs.lemmas.List.Sums.{AllPass-from_list_all, list_all-from_AllPass}
pub use Rattle.std.proofs.lemmas.Map.Keys.{any_passes_from_place}
pub use Rattle.std.proofs.lemmas.Option.{get_or_from_slice_get, slice_get-get_or, slice_get-map, slice_get_within}
pub use Rattle.std.proofs.lemmas.Result.{IfErr-weaker, IfOk-weaker}
pub use Rattle.std.proofs.lemmas.Simd.{map-map}
pub use Rattle.std.specs.Cmp.{both_ways}
pub use Rattle.std.specs.Global.{Global, Vec}
pub use Rattle.std.specs.List.{AllByRecursion, AllZip, cons_option, enumerate_from, list_all, list_any, range_with_len}
pub use Rattle.std.specs.Option.{option_or}
pub use Rattle.std.specs.Vec.Iter.{into_iter_items, into_iter_len}
pub use denote.Param.Send.{IsSend, arg_send, param_send, recorded_send, sendable, struct_send}
pub use denote.RawPtr.{Ptr}
