-- The names of specifications and of the crates below that most proofs here cite, passed on from one place.
pub use Rattle.act_lists.proofs.Lists.{element, filter_map_alike, list_all-weaker, map-enumerate_from, place_in, slice_get_last, slice_get_more}
pub use Rattle.act_lists.proofs.Lists.{slice_get_pushed, stands_in, take_next}
pub use Rattle.act_lists.proofs.Options.{cond_gives}
pub use Rattle.act_order_plays.specs.Plays.{EndsAs, Fits, IsKeptFor, IsPlayOf, LeavesTold, Waited, answer_to, answers, args_of, call_key, calls_by}
pub use Rattle.act_order_plays.specs.Plays.{cast_of_actor, casts_of, future_of, item_key, kept_for, run_key, runs_by, submission_key}
pub use Rattle.act_orders.proofs.Lists.{get_in_taken, get_taken}
pub use Rattle.act_orders.specs.Causes.{IsWhole, run_of}
pub use Rattle.act_orders.specs.Order.{EndsRight, Happened, IsAfter, IsCause, IsInOrder, IsInOrderBy, IsLastRun, IsOrder, RunsBefore, RunsInTurn, RunsNext}
pub use Rattle.act_orders.specs.Order.{SameCaller, SameWay, actor_of, call_of, calls_run}
pub use Rattle.act_orders.specs.declared.told.Actor.{Actor}
pub use Rattle.act_orders.specs.declared.told.End.{End}
pub use Rattle.act_orders.specs.declared.told.End.TheVariants.{Dead, Live, Retired}
pub use Rattle.act_orders.specs.declared.told.Happening.{Happening}
pub use Rattle.act_orders.specs.declared.told.Happening.TheVariants.{Answered, Answered as HasBeenTold, Answered as Told_answer, Ran, Submitted}
pub use Rattle.act_orders.specs.declared.told.Outcome.{Outcome}
pub use Rattle.act_orders.specs.declared.told.Outcome.TheVariants.{Died, Failed, Open}
pub use Rattle.act_orders.specs.declared.told.Run.{Run}
pub use Rattle.act_orders.specs.declared.told.Told.{Told}
pub use Rattle.act_rules.proofs.AsSubmitted.{calls_to-at, filter-slice_get}
pub use Rattle.act_rules.proofs.Elements.{IsIn, any_in, any_is, contains_from_in, contains_is, in_behind, in_filter, in_from_contains, in_front, in_none}
pub use Rattle.act_rules.proofs.Elements.{is_contained}
pub use Rattle.act_rules.proofs.Ended.{HasEnded, contains_more, contains_or, ended_stays, needs-none, under-push}
pub use Rattle.act_rules.proofs.Events.{calls_to-length, collect_unrefused, history_more, telling_unrefused}
pub use Rattle.act_rules.proofs.Growth.{Grows, added_grows, after_run_grows, calls_grow, calls_to_grow, runs_grow}
pub use Rattle.act_rules.proofs.Kept.{kept_at_is, kept_by, kept_stays, length-answers_from}
pub use Rattle.act_rules.proofs.Letters.{IsSoundLetter, calls_to-number, has_letter-sound}
pub use Rattle.act_rules.proofs.Lists.{All_at, All_more, All_weaker, IsPrefix-filter, IsPrefix-map, find-map, front_next, front_trans, front_whole}
pub use Rattle.act_rules.proofs.Lists.{any_front, option_map-none, option_or-none, range_push, slice_get-enumerate_from, slice_get-filter, slice_get_front}
pub use Rattle.act_rules.proofs.Lists.{whole_front}
pub use Rattle.act_rules.proofs.Order.{InOrder, IsNext, next_item_is, numbered, numbers}
pub use Rattle.act_rules.proofs.Posts.{PostsAreSound}
pub use Rattle.act_rules.proofs.RanAll.{Retires, map-numbered, named_call, ran_all, world_retires}
pub use Rattle.act_rules.proofs.Retired.{times-push}
pub use Rattle.act_rules.proofs.Sound.{IsSound, answers_are, consistent, deaths_are, kept_from, sound_step, world_sound}
pub use Rattle.act_rules.proofs.Steps.{IsKept, after_all-append, after_all_keeps, after_keeps}
pub use Rattle.act_rules.proofs.Unique.{held_call, held_submission, map-slice_get, one_place, places_differ, rank as rank_in, same_place}
pub use Rattle.act_rules.specs.Consistent.{IsAsSubmitted, IsPrefix}
pub use Rattle.act_rules.specs.History.{ActorSpec, History, answer_in, answer_of, callers_in, calls_of, cast_of, contains, copies_of, count_pairs, has_letter}
pub use Rattle.act_rules.specs.History.{is_caller, is_dead, is_done, is_drained, is_ended, is_item_of, is_letter, is_retired, kept_of, limit_of, names}
pub use Rattle.act_rules.specs.History.{next_item, opening, opening_of, ran_count, run_item, runs_of, under}
pub use Rattle.act_rules.specs.Kinds.{told_reply}
pub use Rattle.act_rules.specs.Laws.{history}
pub use Rattle.act_rules.specs.Rules.{add_event, after, after_all, after_by, after_run, and_also, call_letter, refusal_of, submission_refusal, unanswered}
pub use Rattle.act_rules.specs.Rules.{was_sent}
pub use Rattle.act_rules.specs.RunList.{Answer, after_item, answer_at, answers_from, call_reply, ends_actor, has_terminated, items_of, step_of_call}
pub use Rattle.act_rules.specs.RunList.{step_of_reply, values_of, with_value}
pub use Rattle.act_rules.specs.Submissions.{calls_to, copies_held, is_earlier, is_known, kept_at, limit_refusal, needs, number_of, send_refusal, settle}
pub use Rattle.act_rules.specs.Submissions.{settled_future, submit_refusal}
pub use Rattle.act_rules.specs.declared.event.Event.{Event}
pub use Rattle.act_rules.specs.declared.event.Event.TheVariants.{AskKill, Collect, Deliver, Release, Retire, Run as RunNext, Send, Submit, TakeKill, Tell}
pub use Rattle.act_rules.specs.declared.history.Letter.{Letter}
pub use Rattle.act_rules.specs.declared.history.Letter.TheVariants.{Call as CallLetter, Note as NoteLetter}
pub use Rattle.act_rules.specs.declared.history.Post.{Post}
pub use Rattle.act_rules.specs.declared.history.Post.TheVariants.{Death as DeathPost, Reply as ReplyPost}
pub use Rattle.act_rules.specs.declared.history.RunItem.{RunItem}
pub use Rattle.act_rules.specs.declared.history.Submission.{Submission}
pub use Rattle.act_rules.specs.declared.outcome.WorldRefusal.{WorldRefusal}
pub use Rattle.act_types.specs.KindState.{KindState, OwnAt}
pub use Rattle.act_types.specs.Own.{Ask, Behaviour, after_ask}
pub use Rattle.act_types.specs.declared.call.Arg.{Arg}
pub use Rattle.act_types.specs.declared.call.Arg.TheVariants.{Fut}
pub use Rattle.act_types.specs.declared.call.Fault.{Fault}
pub use Rattle.act_types.specs.declared.call.Fault.TheVariants.{ActorDied, BadArgs, Dependency}
pub use Rattle.act_types.specs.declared.call.Method.{Method}
pub use Rattle.act_types.specs.declared.call.Method.TheVariants.{Get, Put}
pub use Rattle.act_types.specs.declared.call.Settled.{Settled}
pub use Rattle.act_types.specs.declared.call.Settled.TheVariants.{Good, Good as GoodArg}
pub use Rattle.act_types.specs.declared.call.Value.{Value}
pub use Rattle.act_types.specs.declared.call.Value.TheVariants.{Unit as Nothing}
pub use Rattle.std.proofs.Common.{Bool, Err, List, None, Ok, Option, Result, Some, [], ap, append_assoc, arith, cond, false, filter, filter_map, find, inl, inr}
pub use Rattle.std.proofs.Common.{is_some, length, length-append, map, nat_le, nat_lt, not, option_and_then, option_map, refl, slice_get, subst, suc, sym, take}
pub use Rattle.std.proofs.Common.{true, zero, ℕ, ◌&&◌, ◌++◌, ◌+◌, ◌-◌, ◌<◌, ◌==◌, ◌||◌, ◌∙◌, ◌∷◌, ◌≡◌, ◌≢◌, ◌≤◌, ◌⊎◌}
pub use Rattle.std.proofs.Math.Seq.{take-length}
pub use Rattle.std.proofs.lemmas.Bool.{and_from, and_parts, cases_lt, eq-eqb, eqb-true, false_from_ne_true, le-leb, le-ltb, leb-true, lt-ltb, ltb-true, ne_eqb}
pub use Rattle.std.proofs.lemmas.Bool.{not-true, or_cases, or_left, or_right}
pub use Rattle.std.proofs.lemmas.Bool.Decides.{eqb_tells}
pub use Rattle.std.proofs.lemmas.List.{append-nil, get_or_past, length-map, map-append}
pub use Rattle.std.proofs.lemmas.List.Elements.{filter-append, filter_map-append}
pub use Rattle.std.proofs.lemmas.List.Folds.{list_any-append}
pub use Rattle.std.proofs.lemmas.Option.{get_or_from_slice_get, slice_get-get_or, slice_get-map, slice_get_within}
pub use Rattle.std.specs.List.{AllByRecursion, Contains, cons_option, enumerate_from, list_all, list_any, range_with_len}
