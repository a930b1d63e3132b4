-- The names of specifications and of the crates below that most proofs here cite, passed on from one place.
pub use Rattle.act_lists.proofs.Lists.{all_from_places, filter_mapped, place_in}
pub use Rattle.act_rules.proofs.Common.{ActorSpec, History, IsAnswerOfRun, IsAsSubmitted, actor_spec_of, add_event, after, after_all, after_run, answer_at}
pub use Rattle.act_rules.proofs.Common.{answers_from, calls_of, calls_to, cast_of, contains, enumerate_from, eq-eqb, eqb-true, filter, find, has_terminated}
pub use Rattle.act_rules.proofs.Common.{is_actor_number, is_caller_number, is_dead, is_drained, is_ended, is_number, is_retired, is_sayable_arg, is_some}
pub use Rattle.act_rules.proofs.Common.{items_of, kept_of, length, list_any-append, ltb-true, names, nat_le, needs, next_item, opening, opening_of}
pub use Rattle.act_rules.proofs.Common.{option_and_then, option_map, ran_count, refusal_of, runs_of, settle, settled_future, slice_get-map, slice_get_within}
pub use Rattle.act_rules.proofs.Common.{take, under, ◌-◌, ◌<◌, ◌==◌, ◌||◌, ◌⊎◌}
pub use Rattle.act_rules.proofs.Kept.{kept_at_is, kept_by}
pub use Rattle.act_rules.proofs.Lists.{All_at, All_more, All_weaker, length-filter_least, option_map-none, slice_get-enumerate_from, slice_get-filter}
pub use Rattle.act_rules.proofs.Lists.{slice_get_front}
pub use Rattle.act_rules.proofs.Order.{next_item_is, numbered as keyed, numbers}
pub use Rattle.act_rules.proofs.Sound.{IsSound, answers_are, consistent, sound_step, world_sound}
pub use Rattle.act_rules.proofs.Steps.{IsKept, after_all_keeps, after_keeps}
pub use Rattle.act_rules.proofs.Unique.{held_submission, map-slice_get, rank}
pub use Rattle.act_rules.specs.Grammar.{Form, Script, add_line, added_unless_skipped, args_at, each_at, forms_of, in_line, is_skipped, limited_at, line_added}
pub use Rattle.act_rules.specs.Grammar.{lines_in, no_lines, one_at, plain_at, role_fault, some_callers_at, spelled, spelled_from, two_at, unless, words_in}
pub use Rattle.act_rules.specs.Kinds.{account_reply, count_value, counter_reply, is_in_range, is_storable, item_at, list_reply, look_up, need, reply_of}
pub use Rattle.act_rules.specs.Kinds.{table_reply, with_pair, without_key}
pub use Rattle.act_rules.specs.Laws.{history, is_sayable, is_sayable_method}
pub use Rattle.act_rules.specs.Report.{actor_lines, future_line, future_lines, future_text, item_line, kept_text, line, numbered_lines, one_to, stage_of}
pub use Rattle.act_rules.specs.Report.{stage_text, summary}
pub use Rattle.act_rules.specs.RunList.{Answer, after_item, call_reply, state_after, step_of_call, step_of_reply, values_of, with_value}
pub use Rattle.act_rules.specs.Submissions.{kept_at}
pub use Rattle.act_rules.specs.Words.{Word, all_kinds, all_methods, closed_at, fits_int, int_value, is_integer, is_numeral, kind_text, limit_at, marked_at}
pub use Rattle.act_rules.specs.Words.{method_at, named_by, or_bad_line, value_at, ◌>>=◌}
pub use Rattle.act_rules.specs.declared.event.Event.{Event}
pub use Rattle.act_rules.specs.declared.event.Event.TheVariants.{Retire, Run, Submit, TakeKill}
pub use Rattle.act_rules.specs.declared.history.RunItem.{RunItem}
pub use Rattle.act_rules.specs.declared.history.Submission.{Submission}
pub use Rattle.act_rules.specs.declared.script.Role.{Role}
pub use Rattle.act_rules.specs.declared.script.Wrong.{Wrong}
pub use Rattle.act_summaries.specs.Lines.{AreTold, AreToldAsTheyStand, IsToldAs, ends_in, is_open, told_line}
pub use Rattle.act_summaries.specs.Stems.{AgreedLinesFit, Agrees, AgreesEnd, AgreesKept, AgreesRan, Any, AreAgreed, Call, Death, End, FitHistory, HasWords}
pub use Rattle.act_summaries.specs.Stems.{IsActorSo, IsKeptSo, IsRanSo, IsReadable, Kept, Nothing, OfCall, OfEnd, OfRun, Ran, Reply, Stem, placed, stems_of}
pub use Rattle.act_summaries.specs.Stems.{stems_of_actor}
pub use Rattle.act_summaries.specs.Summaries.{AreReadOneWay, AreToldAlike, EndAlike, IsLeftOpen, KeepsDeath, is_sayable_event, is_sayable_role, kept_for}
pub use Rattle.act_summaries.specs.Summaries.{open_line}
pub use Rattle.act_types.specs.GoodText.{is_good_byte, is_good_text}
pub use Rattle.act_types.specs.KindState.{AccountAt, CounterAt, ItemsOf, KindState, OwnAt, TableOf}
pub use Rattle.act_types.specs.Texts.{actor_text, answer_text, caller_text, fault_text, method_text, pair_text, settled_text, space, state_text, value_text}
pub use Rattle.act_types.specs.Texts.{with_spaces}
pub use Rattle.act_types.specs.declared.call.Arg.{Arg}
pub use Rattle.act_types.specs.declared.call.Arg.TheVariants.{Fut, Plain}
pub use Rattle.act_types.specs.declared.call.Fault.{Fault}
pub use Rattle.act_types.specs.declared.call.Fault.TheVariants.{ActorDied, BadAmount, BadArgs, Insufficient, KindFull, NoItem, NoItems, NoKey, NoMethod}
pub use Rattle.act_types.specs.declared.call.Fault.TheVariants.{Overflow}
pub use Rattle.act_types.specs.declared.call.Method.{Method}
pub use Rattle.act_types.specs.declared.call.Settled.{Settled}
pub use Rattle.act_types.specs.declared.call.Settled.TheVariants.{Bad, Good}
pub use Rattle.act_types.specs.declared.call.Value.{Value}
pub use Rattle.std.proofs.Common.{All, Bool, Contains, Err, List, None, Ok, Option, Result, Some, [], ap, append_assoc, arith, bytes_eq, codes, cond, decimal}
pub use Rattle.std.proofs.Common.{drop, false, inl, inr, length-append, map, nat_lt, neg_ℤ, negsuc, not, pos, refl, slice_get, slice_index, subst, suc, sym}
pub use Rattle.std.proofs.Common.{true, zero, ℕ, ℤ, ◌%◌, ◌&&◌, ◌++◌, ◌+◌, ◌/◌, ◌^◌, ◌∙◌, ◌∷◌, ◌≡◌, ◌≢◌, ◌≤◌}
pub use Rattle.std.proofs.Math.Seq.{drop-append_seam, take-append_seam}
pub use Rattle.std.proofs.lemmas.Bool.{and_from, and_parts, false_from_ne_true, leb-true, lt-ltb, ne_eqb, not-true, or_cases, or_left, or_parts}
pub use Rattle.std.proofs.lemmas.Bool.Decides.{nat_tests}
pub use Rattle.std.proofs.lemmas.Fmt.{decimal_injective}
pub use Rattle.std.proofs.lemmas.Grind.{flat_map-append}
pub use Rattle.std.proofs.lemmas.List.{append-nil, take-append-drop}
pub use Rattle.std.proofs.lemmas.List.Elements.{All-from_recursion, All-head, All-tail, filter-append, recursion_from_All}
pub use Rattle.std.proofs.lemmas.Option.{same_Some}
pub use Rattle.std.specs.Cmp.Lexicographic.{bytes_decides}
pub use Rattle.std.specs.Fmt.{digit_glyph, digits_onto, signed_decimal}
pub use Rattle.std.specs.List.{AllByRecursion, AllZip, flat_map, list_all, onto_first}
pub use lib.Pointwise.{pointwise}
