-- The names of specifications and of the crates below that most proofs here cite, passed on from one place.
pub use Rattle.act_console.proofs.Shown.{summary_is}
pub use Rattle.act_console.specs.Parts.{world_report}
pub use Rattle.act_console.specs.Plans.{steps_of_caller}
pub use Rattle.act_decisions.specs.Agreed.{AgreeUpTo, call_told, calls_told, end_told, ends_told, kept_told, lines_told, of_role, ran_told}
pub use Rattle.act_decisions.specs.Answered.{AreAnswers}
pub use Rattle.act_decisions.specs.Decided.{EndsNowhere, IsBadIn, IsBadStep, Refutes}
pub use Rattle.act_decisions.specs.Fits.{AllFitRoles, AllFitSteps, FitsSteps, StartsWith, binding, own_step}
pub use Rattle.act_decisions.specs.LeftBy.{IsLeftBy, IsSameRun, TellsLeft}
pub use Rattle.act_decisions.specs.Misplaced.{IsMisplaced, NoCall, OtherActor, Twice, WhyMisplaced}
pub use Rattle.act_decisions.specs.Placed.{AllDecided, GaveValue, IsCallIn, IsDecided, IsPlacedAt, IsRunIn, NoValueIsLost, RunsArePlaced, StandsThere}
pub use Rattle.act_decisions.specs.Placed.{TakesNoValue, TakesNone, TookFailure, answer_told, item_told}
pub use Rattle.act_decisions.specs.Play.{BeginsWith, DoesSteps, EndsSo, HasCalls, IsNext, awaits, call_of, calls_of_steps}
pub use Rattle.act_decisions.specs.Read.{AreSayable, FollowsTold, HasGoodPlans, IsLined, IsRead, Matches, NoRunIsMisplaced, WalksDecide}
pub use Rattle.act_decisions.specs.Within.{IsOfNumbers}
pub use Rattle.act_decisions.specs.declared.answers.Answered.{Answered}
pub use Rattle.act_early.proofs.Common.{ActorDied, Contains, Err, History, IsSound, Release, RunItem, after_run, cast_of, cond, has_terminated, is_dead}
pub use Rattle.act_early.proofs.Common.{is_reply, is_retired, is_some, kept_at, kept_of, names, next_item, opening_of, run_needs, runs_of, settle, under-push}
pub use Rattle.act_early.proofs.Common.{◌&&◌}
pub use Rattle.act_early.proofs.Replies.{reply_alive, reply_died, reply_some}
pub use Rattle.act_early.proofs.Worlds.{not_so, retire_needs, take_needs}
pub use Rattle.act_lists.proofs.Lists.{element, map_none, place_in, stands_in}
pub use Rattle.act_owner.specs.Owner.{call_at, numbered_call}
pub use Rattle.act_owner.specs.declared.owner.Call.{Call}
pub use Rattle.act_rules.proofs.Common.{and_parts, is_actor_number, is_caller_number, nat_le}
pub use Rattle.act_rules.proofs.Ended.{contains_push}
pub use Rattle.act_rules.proofs.Kept.{answers_from-append, kept_at_is, kept_by, length-answers_from}
pub use Rattle.act_rules.proofs.Lists.{AllPairs-map, All_at, find-map, length-filter_least}
pub use Rattle.act_rules.proofs.Sound.{answers_are, consistent, deaths_are}
pub use Rattle.act_rules.proofs.Steps.{IsKept, after_all_keeps}
pub use Rattle.act_rules.proofs.Unique.{held_submission, map-slice_get, one_place}
pub use Rattle.act_rules.specs.Grammar.{is_skipped, lines_in}
pub use Rattle.act_rules.specs.History.{ActorSpec, actors_naming, answer_of, callers_in, calls_of, contains, opening}
pub use Rattle.act_rules.specs.Laws.{history, is_sayable_arg}
pub use Rattle.act_rules.specs.Plans.{first_bad}
pub use Rattle.act_rules.specs.Report.{future_text, line, one_to, summary}
pub use Rattle.act_rules.specs.Rules.{outcomes}
pub use Rattle.act_rules.specs.RunList.{Answer, after_item, answer_at, answers_from, state_after}
pub use Rattle.act_rules.specs.Scripts.{actor_spec_of, opening_state}
pub use Rattle.act_rules.specs.declared.event.Event.{Event}
pub use Rattle.act_rules.specs.declared.history.Submission.{Submission}
pub use Rattle.act_rules.specs.declared.script.Mode.TheVariants.{Play}
pub use Rattle.act_rules.specs.declared.script.Role.{Role}
pub use Rattle.act_rules.specs.declared.script.Step.{Step}
pub use Rattle.act_scripts.specs.Roles.{AreFitting}
pub use Rattle.act_summaries.proofs.Alike.{read_one_way, valid_or_none}
pub use Rattle.act_summaries.specs.Lines.{AreTold, IsToldAs, Make, ends_in, is_open, told_line}
pub use Rattle.act_summaries.specs.Stems.{Agrees, AgreesKept, Any, AreAgreed, End, FitHistory, IsActorSo, IsKeptSo, IsRanSo, IsReadable, IsReply, Kept, OfCall}
pub use Rattle.act_summaries.specs.Stems.{OfEnd, OfRun, Stem, placed, stems_of, stems_of_actor}
pub use Rattle.act_summaries.specs.Summaries.{EndAlike, IsLeftOpen, KeepsDeath, is_sayable_role, kept_for, open_line}
pub use Rattle.act_told_ends.specs.LeftOpen.{IsReplyForDeath, MayStandForKept, with_kept}
pub use Rattle.act_told_ends.specs.Told.{EndsAsTold, Leaves, Told, told_of}
pub use Rattle.act_told_ends.specs.Untold.{IsAsRun, MayStandFor, Ran, StandFor, arg_as_run, with_calls}
pub use Rattle.act_types.specs.Texts.{actor_text, method_text, settled_text, space, with_spaces}
pub use Rattle.act_types.specs.declared.call.Arg.{Arg}
pub use Rattle.act_types.specs.declared.call.Method.{Method}
pub use Rattle.act_types.specs.declared.call.Settled.{Settled}
pub use Rattle.act_types.specs.declared.call.Settled.TheVariants.{Bad, Good}
pub use Rattle.act_types.specs.declared.limits.TheConstants.{MAX_ACTORS, MAX_CALLERS}
pub use Rattle.act_walks.proofs.Calls.{bound_is, calls_are as of_caller}
pub use Rattle.act_walks.specs.Fits.{Fits, FitsCasts, FitsLeft, actor_in, bound_of, call_of_item, call_of_run, caller_in, callers_of, calls_in, is_dead_in}
pub use Rattle.act_walks.specs.Fits.{is_retired_in, left_of, rans_in, runs_in, submission_of_call}
pub use Rattle.act_walks.specs.declared.told.Left.{Left}
pub use Rattle.act_walks.specs.declared.told.ToldActor.{ToldActor}
pub use Rattle.act_walks.specs.declared.told.ToldCall.{ToldCall}
pub use Rattle.act_walks.specs.declared.told.ToldCaller.{ToldCaller}
pub use Rattle.act_walks.specs.declared.told.ToldEnd.{ToldEnd}
pub use Rattle.act_walks.specs.declared.told.ToldRun.{ToldRun}
pub use Rattle.act_world.proofs.Headline.{calls_are}
pub use Rattle.act_world.proofs.Lawful.{world_lawful}
pub use Rattle.act_world.proofs.Lists.{read_is}
pub use Rattle.act_world.specs.IsReachedBy.{IsReachedBy}
pub use Rattle.act_world.specs.View.{WorldView, world_view}
pub use Rattle.std.proofs.Common.{All, Bool, Bor, IfSome, IsTrue, List, None, Ok, Option, Some, [], add-one, ap, append_assoc, arith, codes, drop, false}
pub use Rattle.std.proofs.Common.{filter, get_or, if◌then◌else◌, inl, inr, leb, length, map, not, option_map, position, refl, rules, slice_get, string_bytes}
pub use Rattle.std.proofs.Common.{subst, suc, sym, take, tests, true, zero, ℕ, ◌++◌, ◌+◌, ◌-◌, ◌<◌, ◌==◌, ◌||◌, ◌∙◌, ◌∷◌, ◌≡◌, ◌≢◌, ◌≤◌, ◌⊎◌}
pub use Rattle.std.proofs.Math.Seq.{drop-cons, get_or-append_seam, take-append_seam}
pub use Rattle.std.proofs.lemmas.Bool.{cases_lt, eq-eqb, eqb-true, leb-false, leb-true, ltb-false, ne_eqb}
pub use Rattle.std.proofs.lemmas.Grind.{flat_map-append}
pub use Rattle.std.proofs.lemmas.Iterator.Consumers.{YieldsList-end}
pub use Rattle.std.proofs.lemmas.Iterator.Splits.{YieldsList-from_slice_split}
pub use Rattle.std.proofs.lemmas.List.{append-nil, get_or-take, length-append, length-drop, length-map, length-take, length-take-le, map-append}
pub use Rattle.std.proofs.lemmas.List.{take-append-drop, take_all, take_more}
pub use Rattle.std.proofs.lemmas.List.Elements.{All-append, All-cons, All-from_get_or, All-head, All-more, All-nil, All-tail, All-take, filter-append}
pub use Rattle.std.proofs.lemmas.List.Splits.{slice_split-cons_no, slice_split-cons_yes, slice_split_at, slice_split_none}
pub use Rattle.std.proofs.lemmas.Option.{get_or_from_slice_get, same_Some, slice_get-get_or, slice_get-map, slice_get_cases, slice_get_past, slice_get_read}
pub use Rattle.std.proofs.lemmas.Option.{slice_get_within}
pub use Rattle.std.proofs.lemmas.Result.{IfOk-weaker}
pub use Rattle.std.specs.List.{AllZip, flat_map, list_all, onto_first, position_or_len, starts_with}
pub use Rattle.std.specs.Option.{option_map_or}
pub use Rattle.std.specs.Prelude.{AllPairs, IsOk, find, option_and_then, option_copied}
