-- The names of specifications and of the crates below that most proofs here cite, passed on from one place.
pub use Rattle.act_early.proofs.Common.{ActorDied, ActorSpec, All, All-append, All-cons, All-nil, AllByRecursion, AllNamed, All_at, All_more, All_weaker}
pub use Rattle.act_early.proofs.Common.{Answer, AreOthers, Arg, At, Await, Bool, Closes, Contains, Contains-append_left, Contains-append_right, Copy}
pub use Rattle.act_early.proofs.Common.{DoesStepBy, DoesStepsBy, Err, Event, Extends, Grows, Happens, History, IsAsSubmitted, IsKept, IsNext, IsOk, IsPlay}
pub use Rattle.act_early.proofs.Common.{IsPrefix, IsSound, IsSoundPost, KeepsToPlans, Kill, KindState, Letter, List, MayTake, Method, NoCaller, None, Ok, Opens}
pub use Rattle.act_early.proofs.Common.{Option, Outcome, PendingLimit, Post, Release, RunItem, Sending, Settled, Skips, Some, Step, Submission, Submit}
pub use Rattle.act_early.proofs.Common.{SubmitRefusal, Takes, [], add_event, added_grows, after, after_all, after_all-append, after_all_keeps, after_by}
pub use Rattle.act_early.proofs.Common.{after_run, after_step, and_also, and_from, and_parts, answer_alive, answer_at, answer_at-front, answer_in}
pub use Rattle.act_early.proofs.Common.{answer_in_stays, answer_of, answers_are, answers_from, ap, append-nil, append_assoc, arguments_stay, arith, both_ways}
pub use Rattle.act_early.proofs.Common.{call_letter, callers_in, calls_grow, calls_of, calls_to, calls_to-at, calls_to_grow, cases_lt, cast_of, cond}
pub use Rattle.act_early.proofs.Common.{cons_option, consistent, contains, copies_named, copies_of, count_pairs, dead_stays, deliver_refusal, element}
pub use Rattle.act_early.proofs.Common.{enumerate_from, eq-eqb, eqb-true, false, filter, filter_map, filter_map-append, filter_map-same, find, front_next}
pub use Rattle.act_early.proofs.Common.{front_trans, handle_refusal, has_letter, has_letter-sound, has_terminated, held_call, held_submission, history, inl}
pub use Rattle.act_early.proofs.Common.{inr, is_caller, is_dead, is_done, is_drained, is_ended, is_free, is_item_of, is_kill_of, is_known, is_last, is_none}
pub use Rattle.act_early.proofs.Common.{is_reply, is_retired, is_some, is_step_by, items_of, kept_at, kept_at_is, kept_by, kept_extends, kept_of, kept_step}
pub use Rattle.act_early.proofs.Common.{length, length-answers_from, length-map, length_push, letter_actor, limit_of, limit_of-same, limit_refusal, list_all}
pub use Rattle.act_early.proofs.Common.{list_any, list_any-append, map, map-slice_get, names, nat_lt, nat_tests, needs, needs-none, next_item, next_item_caller}
pub use Rattle.act_early.proofs.Common.{next_item_is, next_step, not, number_of, numbered, numbers, occurrences, one_place, opening, opening_of}
pub use Rattle.act_early.proofs.Common.{option_and_then, option_map, option_map-none, option_or-none, option_or-none_second, or_left, or_right, outcome_by}
pub use Rattle.act_early.proofs.Common.{outcome_of, outcomes, outcomes-append, ran_all, ran_count, rank, refl, refusal_of, run_item, run_needs, run_stands}
pub use Rattle.act_early.proofs.Common.{ran_on, runs_of, send_refusal, settle, skipped, slice_get, slice_get-enumerate_from, slice_get-filter, slice_get-map}
pub use Rattle.act_early.proofs.Common.{slice_get_front, slice_get_last, slice_get_within, sound_step, steps_of, submit_refusal, subst, suc, summary, sym, take}
pub use Rattle.act_early.proofs.Common.{taken, true, unanswered, under, under-push, was_sent, whole_front, with_event, world_retires, world_sound, zero, ℕ}
pub use Rattle.act_early.proofs.Common.{◌&&◌, ◌++◌, ◌+◌, ◌-◌, ◌<◌, ◌==◌, ◌||◌, ◌∙◌, ◌∷◌, ◌≡◌, ◌≢◌, ◌≤◌, ◌⊎◌}
pub use Rattle.act_early.proofs.Counting.{done_steps, occurrences-push, take-at, take-past, take-prefix}
pub use Rattle.act_early.proofs.Earlier.{IsEarlier, earlier_event, earlier_same, earlier_trans, step_kills, step_runs}
pub use Rattle.act_early.proofs.Ending.{kept_long, same_kept}
pub use Rattle.act_early.proofs.Items.{IsReady, ready, take-front}
pub use Rattle.act_early.proofs.Listing.{accepted_none, list_play}
pub use Rattle.act_early.proofs.Matching.{IsPrefix-filter_map}
pub use Rattle.act_early.proofs.Notes.{NotesSent, notes_sent, opened_none}
pub use Rattle.act_early.proofs.Progress.{Follows, IsIdle, copied_one, counted, follows, free_idle, is_copy_of, is_release_of, released_one, submission_in}
pub use Rattle.act_early.proofs.Progress.{submitted_one}
pub use Rattle.act_early.proofs.Replies.{death_answers, front_short, reply_alive, reply_died, reply_some, some_first as gives_first}
pub use Rattle.act_early.proofs.Shifting.{head_same, none_others, others_first, others_rest, tail_same}
pub use Rattle.act_early.proofs.Unanswered.{next_unanswered, number_is}
pub use Rattle.act_early.proofs.Waiting.{IsAlike, may_take}
pub use Rattle.act_early.proofs.Worlds.{IsWorld, either_of, event_of, not_so, step_keeps, take_needs, world, world_step}
pub use Rattle.act_lists.proofs.Lists.{filter_map_alike, filter_mapped, past_none, place_in, slice_get_pushed, stands_in}
pub use Rattle.act_rules.proofs.Callers.{named_among}
pub use Rattle.act_rules.proofs.Ended.{contains_push}
pub use Rattle.act_rules.proofs.Kept.{kept_size}
pub use Rattle.act_rules.proofs.Letters.{has_front, has_letter-at, letter_place}
pub use Rattle.act_rules.proofs.Lists.{any_push, front_whole}
pub use Rattle.act_rules.specs.History.{actors_naming}
pub use Rattle.act_rules.specs.Submissions.{copies_held, is_earlier, settled_future}
pub use Rattle.act_rules.specs.declared.history.Letter.TheVariants.{Call as CallLetter, Note as NoteLetter}
pub use Rattle.act_rules.specs.declared.history.Post.TheVariants.{Death as DeathPost, Reply as ReplyPost}
pub use Rattle.act_rules.specs.declared.outcome.SendRefusal.TheVariants.{Answered, NotReady}
pub use Rattle.act_rules.specs.declared.outcome.SubmitRefusal.TheVariants.{BadFuture, NoActor as NoSuchActor, NoHandle as NoCopy, TooManyArgs, TooManyCalls}
pub use Rattle.act_rules.specs.declared.outcome.WorldRefusal.{WorldRefusal}
pub use Rattle.act_rules.specs.declared.outcome.WorldRefusal.TheVariants.{Handle, Submit as SubmitRefused}
pub use Rattle.act_told_ends.specs.LeftOpen.{IsReplyForDeath, MayStandForKept, with_kept}
pub use Rattle.act_told_ends.specs.Resting.{IsEndTold, IsResting, Rests, Through, rested}
pub use Rattle.act_told_ends.specs.Retiring.{IsToRetire, LetsGo, MayRetire, Notes, RetiredAsTold, Retires, last_note}
pub use Rattle.act_told_ends.specs.Told.{DidFirst, EndsAsTold, IsWalk, Leaves, Told, copies, releases, submission_of, told_of}
pub use Rattle.act_told_ends.specs.Untold.{IsAsRun, MayStandFor, Ran, StandFor, arg_as_run, with_calls}
pub use Rattle.act_told_ends.specs.Walked.{Begins, Brings, GoesOn, IsWalked, Mails, gone_on, one_step_more}
pub use Rattle.act_told_ends.specs.Walks.{Asks, Calls, Collects, Delivers, DoesWithout, Hears, IsThrough, MayGoOn, MayHear, Runs, Sends, Steps, TakesKill}
pub use Rattle.act_told_ends.specs.Walks.{Tells, letter_of}
pub use Rattle.act_types.specs.declared.call.Arg.TheVariants.{Fut, Plain}
pub use Rattle.act_types.specs.declared.call.Settled.TheVariants.{Bad}
pub use Rattle.std.proofs.lemmas.Bool.{or_right}
pub use Rattle.std.proofs.lemmas.List.{take-map}
pub use Rattle.std.specs.Option.{option_or}
pub use Rattle.std.specs.Prelude.{AllPairs, nat_le}
