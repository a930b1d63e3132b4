-- The names of specifications and of the crates below that most proofs here cite, passed on from one place.
pub use Rattle.act_early.specs.Early.{EndsAlike, HasRunMore, HasTakenMore, IsEnded, IsOver, IsQuiescent, IsWholeSearch, LosesOnly, choices_of, is_heard}
pub use Rattle.act_early.specs.Early.{is_reply}
pub use Rattle.act_early.specs.Fronts.{AreAlike, HaveSameChoices, IsFrontOf, MayKill, MayRun, Nearer, Whole}
pub use Rattle.act_early.specs.Lists.{AreOthers, DoesStepBy, DoesStepsBy, KeepsToPlans, is_step_by}
pub use Rattle.act_early.specs.Plays.{At, Closes, Happens, IsPlay, MayTake, Opens, Skips, Takes, after_step, is_free, next_step, opened, skipped, steps_of}
pub use Rattle.act_early.specs.Plays.{taken, with_event}
pub use Rattle.act_early.specs.Quiescence.{IsEarly, IsSameEnd, RunsMore, Starts, TakesMore}
pub use Rattle.act_early.specs.Told.{told_at_rest}
pub use Rattle.act_lists.proofs.Lists.{element, slice_get_last, take_next}
pub use Rattle.act_rules.proofs.AsSubmitted.{calls_to-at}
pub use Rattle.act_rules.proofs.Callers.{named_among}
pub use Rattle.act_rules.proofs.Ended.{NothingFollows, contains_more, contains_push, dead_stays, ended_stays, needs-none, nothing_follows_step, run_needs}
pub use Rattle.act_rules.proofs.Ended.{under-push}
pub use Rattle.act_rules.proofs.Events.{all_from_each, history_more, some_cast}
pub use Rattle.act_rules.proofs.Growth.{Grows, added_grows, calls_grow, calls_to_grow, runs_grow}
pub use Rattle.act_rules.proofs.Kept.{KeepsAnswer, answer_at-front, answer_in_stays, kept_at_is, kept_by, kept_step, length-answers_from}
pub use Rattle.act_rules.proofs.KindFaults.{answer_alive}
pub use Rattle.act_rules.proofs.Letters.{IsSoundLetter, has_front, has_last, has_letter-sound, kept_extends, letter_place}
pub use Rattle.act_rules.proofs.Limits.{fewer, limit_of-same}
pub use Rattle.act_rules.proofs.Lists.{All_at, All_more, All_weaker, any_front, any_push, filter_map-same, front_next, front_trans, front_whole, numbers_alike}
pub use Rattle.act_rules.proofs.Lists.{option_map-none, option_or-none, option_or-none_second, slice_get-enumerate_from, slice_get-filter, slice_get_front}
pub use Rattle.act_rules.proofs.Lists.{whole_front}
pub use Rattle.act_rules.proofs.Order.{IsNext, next_item_is, numbered, numbers}
pub use Rattle.act_rules.proofs.Posts.{IsSoundPost, PostsAreSound, next_item_caller, ran_on, run_stands}
pub use Rattle.act_rules.proofs.RanAll.{AllNamed, Retires, copies_named, named_call, ran_all, retires_step, world_retires}
pub use Rattle.act_rules.proofs.Retired.{gone_step, times-push}
pub use Rattle.act_rules.proofs.Settling.{Extends, arguments_stay}
pub use Rattle.act_rules.proofs.Sound.{IsSound, answers_are, consistent, deaths_are, kept_from, sound_step, world_sound}
pub use Rattle.act_rules.proofs.Steps.{IsKept, after_all-append, after_all_keeps, after_keeps, outcomes-append}
pub use Rattle.act_rules.proofs.Table.{first_answer-same}
pub use Rattle.act_rules.proofs.Unique.{held_call, held_submission, map-slice_get, one_place, rank}
pub use Rattle.act_rules.specs.Consistent.{IsAsSubmitted, IsPrefix}
pub use Rattle.act_rules.specs.History.{ActorSpec, History, answer_in, answer_of, callers_in, calls_of, cast_of, contains, copies_of, count_pairs, first_answer}
pub use Rattle.act_rules.specs.History.{has_letter, is_caller, is_dead, is_done, is_drained, is_ended, is_item_of, is_retired, kept_of, limit_of, names}
pub use Rattle.act_rules.specs.History.{next_item, opening, opening_of, ran_count, run_item, runs_of, under}
pub use Rattle.act_rules.specs.Laws.{history}
pub use Rattle.act_rules.specs.Plans.{is_kill_of, occurrences}
pub use Rattle.act_rules.specs.Report.{actor_lines, future_lines, one_to, stage_of, stage_text, summary}
pub use Rattle.act_rules.specs.Rules.{Outcome, add_event, after, after_all, after_by, after_run, and_also, call_letter, deliver_refusal, is_last, letter_actor}
pub use Rattle.act_rules.specs.Rules.{outcome_by, outcome_of, outcomes, refusal_of, submission_refusal, unanswered, was_sent}
pub use Rattle.act_rules.specs.RunList.{Answer, answer_at, answers_from, has_terminated, items_of, state_after}
pub use Rattle.act_rules.specs.Submissions.{calls_to, copies_held, copy_refusal, handle_refusal, is_known, kept_at, limit_refusal, needs, number_of}
pub use Rattle.act_rules.specs.Submissions.{send_refusal, settle, submit_refusal}
pub use Rattle.act_rules.specs.declared.event.Event.{Event}
pub use Rattle.act_rules.specs.declared.history.Letter.{Letter}
pub use Rattle.act_rules.specs.declared.history.Letter.TheVariants.{Call as CallLetter, Note as NoteLetter}
pub use Rattle.act_rules.specs.declared.history.Post.{Post}
pub use Rattle.act_rules.specs.declared.history.Post.TheVariants.{Death as DeathPost, Reply as ReplyPost}
pub use Rattle.act_rules.specs.declared.history.RunItem.{RunItem}
pub use Rattle.act_rules.specs.declared.history.Submission.{Submission}
pub use Rattle.act_rules.specs.declared.outcome.HandleRefusal.TheVariants.{NoActor}
pub use Rattle.act_rules.specs.declared.outcome.SubmitRefusal.{SubmitRefusal}
pub use Rattle.act_rules.specs.declared.outcome.SubmitRefusal.TheVariants.{PendingLimit}
pub use Rattle.act_rules.specs.declared.outcome.WorldRefusal.{WorldRefusal}
pub use Rattle.act_rules.specs.declared.outcome.WorldRefusal.TheVariants.{ActorEnded, Handle, NoCaller, NoKill, NotDead, NotDrained, Sending}
pub use Rattle.act_rules.specs.declared.outcome.WorldRefusal.TheVariants.{Submit as SubmitRefused}
pub use Rattle.act_rules.specs.declared.script.Step.{Step}
pub use Rattle.act_rules.specs.declared.script.Step.TheVariants.{Await, Copy, Kill, Release, Submit}
pub use Rattle.act_types.specs.KindState.{KindState}
pub use Rattle.act_types.specs.declared.call.Arg.{Arg}
pub use Rattle.act_types.specs.declared.call.Fault.{Fault}
pub use Rattle.act_types.specs.declared.call.Fault.TheVariants.{ActorDied}
pub use Rattle.act_types.specs.declared.call.Method.{Method}
pub use Rattle.act_types.specs.declared.call.Settled.{Settled}
pub use Rattle.std.proofs.Common.{All, Bool, Contains, Err, IsOk, List, None, Ok, Option, Some, [], ap, append_assoc, arith, cond, drop, false, filter}
pub use Rattle.std.proofs.Common.{filter_map, find, if◌then◌else◌, inl, inr, is_none, is_some, length, length-append, map, nat_lt, not, option_and_then}
pub use Rattle.std.proofs.Common.{option_map, refl, slice_get, subst, suc, sym, take, true, zero, ℕ, ◌&&◌, ◌++◌, ◌+◌, ◌-◌, ◌<◌, ◌==◌, ◌||◌, ◌∙◌, ◌∷◌, ◌≡◌, ◌≢◌}
pub use Rattle.std.proofs.Common.{◌≤◌, ◌⊎◌}
pub use Rattle.std.proofs.Math.Seq.{take-append_seam}
pub use Rattle.std.proofs.lemmas.Bool.{and_from, and_parts, cases_lt, eq-eqb, eqb-true, false_from_ne_true, ltb-true, not-true, or_from, or_left, or_parts}
pub use Rattle.std.proofs.lemmas.Bool.{or_right}
pub use Rattle.std.proofs.lemmas.Bool.Decides.{nat_tests}
pub use Rattle.std.proofs.lemmas.List.{append-nil, length-map, length-take-le, length_push, map-append, take-append-drop, take_all}
pub use Rattle.std.proofs.lemmas.List.Elements.{All-append, All-cons, All-nil, Contains-append_left, Contains-append_right, filter-append, filter_map-append}
pub use Rattle.std.proofs.lemmas.List.Folds.{list_any-append}
pub use Rattle.std.proofs.lemmas.Option.{same_Some, slice_get-map, slice_get_past, slice_get_within}
pub use Rattle.std.specs.Cmp.{both_ways}
pub use Rattle.std.specs.List.{AllByRecursion, cons_option, enumerate_from, flat_map, list_all, list_any}
