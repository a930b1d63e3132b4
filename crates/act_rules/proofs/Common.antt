-- The names of specifications and of the crates below that most proofs here cite, passed on from one place.
pub use Rattle.act_lists.proofs.Lists.{contains_tail, element, get_set-other, get_set-same, list_all-weaker, map-enumerate_from, map_alike, past_none}
pub use Rattle.act_lists.proofs.Lists.{slice_get_last, slice_get_more}
pub use Rattle.act_lists.proofs.Options.{cond_gives, cond_none}
pub use Rattle.act_rules.specs.Consistent.{Consistent, IsAnswerOfRun, IsAsSubmitted, IsCallToDead, IsPrefix}
pub use Rattle.act_rules.specs.History.{ActorSpec, History, actors_naming, answer_in, answer_of, callers_in, calls_of, cast_of, contains, copies_of}
pub use Rattle.act_rules.specs.History.{count_pairs, first_answer, has_letter, is_caller, is_dead, is_done, is_drained, is_ended, is_item_of, is_letter}
pub use Rattle.act_rules.specs.History.{is_retired, kept_of, limit_of, names, next_item, opening, opening_of, ran_count, run_item, runs_of, under}
pub use Rattle.act_rules.specs.Kinds.{Reply, account_reply, counter_reply, is_in_range, kind_fault, list_reply, look_up, need, reply_of, table_reply}
pub use Rattle.act_rules.specs.Kinds.{told_reply}
pub use Rattle.act_rules.specs.Laws.{HasOneSpelling, ReadsBack, always, arg_text, history, is_actor_number, is_caller_number, is_number, is_sayable}
pub use Rattle.act_rules.specs.Laws.{is_sayable_arg, is_sayable_method}
pub use Rattle.act_rules.specs.OwnRuns.{HoldsInEachRun, IsKept, RunsByItsSteps, ask_of, kind_answer, own_after_item, own_answers, own_asked, own_call}
pub use Rattle.act_rules.specs.OwnRuns.{own_state_after, told_in, with_answer}
pub use Rattle.act_rules.specs.Plans.{Progress, do_step, done_by, events_of, holds, is_held_back, is_limit, is_planned_by, is_refused, let_through}
pub use Rattle.act_rules.specs.Plans.{nothing_done, occurrences, planned}
pub use Rattle.act_rules.specs.Rules.{Outcome, add_event, after, after_all, after_by, after_run, and_also, call_letter, deliver_refusal, is_last, letter_actor}
pub use Rattle.act_rules.specs.Rules.{outcome_of, outcomes, refusal_of, submission_refusal, unanswered, was_sent}
pub use Rattle.act_rules.specs.RunList.{Answer, NothingFollowsAnEnd, after_item, answer_at, answers_from, call_reply, ends_actor, has_terminated, items_of}
pub use Rattle.act_rules.specs.RunList.{state_after, step_of_call, step_of_reply, values_of}
pub use Rattle.act_rules.specs.Scripts.{actor_spec_of, actors_of_roles}
pub use Rattle.act_rules.specs.Submissions.{calls_to, copies_held, copy_refusal, handle_refusal, is_earlier, is_known, kept_at, limit_refusal, needs, number_of}
pub use Rattle.act_rules.specs.Submissions.{send_refusal, settle, settled_future, submit_refusal}
pub use Rattle.act_rules.specs.Words.{Word, all_kinds, all_methods, closed_at, fits_int, int_at, int_value, is_integer, is_numeral, kind_text, marked_at}
pub use Rattle.act_rules.specs.Words.{named_by, number_at, or_bad_line, ◌>>=◌}
pub use Rattle.act_rules.specs.declared.event.Event.{Event}
pub use Rattle.act_rules.specs.declared.event.Event.TheVariants.{AskKill, Collect, Copy, Deliver, Release, Retire, Run, Send, Submit, TakeKill, Tell}
pub use Rattle.act_rules.specs.declared.history.Letter.{Letter}
pub use Rattle.act_rules.specs.declared.history.Letter.TheVariants.{Call as CallLetter, Note as NoteLetter}
pub use Rattle.act_rules.specs.declared.history.Post.{Post}
pub use Rattle.act_rules.specs.declared.history.Post.TheVariants.{Death as DeathPost, Reply as ReplyPost}
pub use Rattle.act_rules.specs.declared.history.RunItem.{RunItem}
pub use Rattle.act_rules.specs.declared.history.Submission.{Submission}
pub use Rattle.act_rules.specs.declared.outcome.HandleRefusal.{HandleRefusal}
pub use Rattle.act_rules.specs.declared.outcome.HandleRefusal.TheVariants.{NoActor, NoHandle, TooManyCopies}
pub use Rattle.act_rules.specs.declared.outcome.SendRefusal.{SendRefusal}
pub use Rattle.act_rules.specs.declared.outcome.SendRefusal.TheVariants.{Answered, NotReady}
pub use Rattle.act_rules.specs.declared.outcome.SubmitRefusal.{SubmitRefusal}
pub use Rattle.act_rules.specs.declared.outcome.SubmitRefusal.TheVariants.{BadFuture, NoActor as NoSuchActor, NoHandle as NoCopy, PendingLimit, TooManyArgs}
pub use Rattle.act_rules.specs.declared.outcome.SubmitRefusal.TheVariants.{TooManyCalls}
pub use Rattle.act_rules.specs.declared.outcome.WorldRefusal.{WorldRefusal}
pub use Rattle.act_rules.specs.declared.outcome.WorldRefusal.TheVariants.{ActorEnded, Handle, NoCaller, NoKill, NoReply, NotDead, NotDrained, Sending}
pub use Rattle.act_rules.specs.declared.outcome.WorldRefusal.TheVariants.{Submit as SubmitRefused}
pub use Rattle.act_rules.specs.declared.script.Role.{Role}
pub use Rattle.act_rules.specs.declared.script.Step.{Step}
pub use Rattle.act_rules.specs.declared.script.Wrong.{Wrong}
pub use Rattle.act_rules.specs.declared.script.Wrong.TheVariants.{BadLine}
pub use Rattle.act_types.specs.GoodText.{is_good_text}
pub use Rattle.act_types.specs.KindState.{AccountAt, CounterAt, ItemsOf, KindState, OwnAt, TableOf}
pub use Rattle.act_types.specs.Own.{Ask, StepOf, after_ask, behaves, next_state, step_answer}
pub use Rattle.act_types.specs.Texts.{actor_text, caller_text, method_text, value_text}
pub use Rattle.act_types.specs.declared.call.Arg.{Arg}
pub use Rattle.act_types.specs.declared.call.Arg.TheVariants.{Fut, Plain}
pub use Rattle.act_types.specs.declared.call.Fault.{Fault}
pub use Rattle.act_types.specs.declared.call.Fault.TheVariants.{ActorDied, Dependency}
pub use Rattle.act_types.specs.declared.call.Method.{Method}
pub use Rattle.act_types.specs.declared.call.Method.TheVariants.{Add, At, Balance, Del, Deposit, Get, Len, Pop, Push, Put, Size, Terminate, Withdraw}
pub use Rattle.act_types.specs.declared.call.Value.{Value}
pub use Rattle.act_types.specs.declared.call.Value.TheVariants.{Int, Text}
pub use Rattle.std.proofs.Common.{All, AllPairs, Bool, Contains, Err, List, None, Ok, Option, Result, Some, [], ap, append_assoc, arith, bytes_eq, codes, cond}
pub use Rattle.std.proofs.Common.{decimal, false, filter, filter_map, find, get_or, if◌then◌else◌, inl, inr, is_none, is_some, length, length-append, map}
pub use Rattle.std.proofs.Common.{nat_le, nat_lt, neg_ℤ, negsuc, not, option_and_then, option_map, pos, position, refl, rules, slice_get, slice_index}
pub use Rattle.std.proofs.Common.{slice_index_or, subst, suc, sym, take, true, zero, zip, ℕ, ℤ, ⊎_elim, ◌&&◌, ◌++◌, ◌+◌, ◌-◌, ◌<◌, ◌==◌, ◌^◌, ◌||◌, ◌∙◌, ◌∷◌}
pub use Rattle.std.proofs.Common.{◌≡◌, ◌≢◌, ◌≤◌, ◌⊎◌}
pub use Rattle.std.proofs.Math.Seq.{get_or-append_seam, take-append_seam, take-length}
pub use Rattle.std.proofs.lemmas.Bool.{and_from, and_parts, cases_lt, eq-eqb, eqb-true, leb-true, ltb-false, ltb-true, ne_eqb, not-true, or_cases, or_right}
pub use Rattle.std.proofs.lemmas.Bool.Decides.{eqb_tells, nat_tests}
pub use Rattle.std.proofs.lemmas.Fmt.{decimal-digits_value, decimal_digit, decimal_nonempty, digits_decimal, digits_value-decimal, first_decimal}
pub use Rattle.std.proofs.lemmas.List.{append-nil, get_or-map, length-map, length_push, map-append, take_more}
pub use Rattle.std.proofs.lemmas.List.Elements.{All-cons, All-contains, All-head, All-map, All-nil, All-tail, filter-append, filter_map-append}
pub use Rattle.std.proofs.lemmas.List.Folds.{find_at, list_any-append}
pub use Rattle.std.proofs.lemmas.List.FromFn.{length-enumerate_from}
pub use Rattle.std.proofs.lemmas.List.Quantifiers.{position-Some}
pub use Rattle.std.proofs.lemmas.List.Sums.{count_by-le-length, length-filter}
pub use Rattle.std.proofs.lemmas.Option.{get_or_from_slice_get, slice_get-get_or, slice_get-map, slice_get_past, slice_get_read, slice_get_within}
pub use Rattle.std.proofs.lemmas.Str.Parse.{IsDigitsTest, IsNumeralModel, numerals_by_value}
pub use Rattle.std.specs.Char.{is_ascii_digit}
pub use Rattle.std.specs.Cmp.Lexicographic.{bytes_decides}
pub use Rattle.std.specs.Fmt.{signed_decimal}
pub use Rattle.std.specs.List.{AllByRecursion, cons_option, enumerate_from, flat_map, list_all, list_any, position_or_len, range_with_len}
pub use Rattle.std.specs.Option.{option_or}
pub use Rattle.std.specs.Str.Parse.{digits_value}
