-- The names of specifications and of the crates below that most proofs here cite, passed on from one place.
pub use Rattle.act_rules.proofs.Lists.{AllPairs-map}
pub use Rattle.act_rules.proofs.Numbers.{digits_have_values, numeral_is_digits}
pub use Rattle.act_rules.specs.Grammar.{Form, Script, args_at, callers_at, each_at, forms_of, has_twice, in_line, is_plain_byte, line_added, lines_in, no_lines}
pub use Rattle.act_rules.specs.Grammar.{plain_at, some_callers_at, spelled_from, words_in}
pub use Rattle.act_rules.specs.History.{ActorSpec}
pub use Rattle.act_rules.specs.Scripts.{actor_spec_of}
pub use Rattle.act_rules.specs.Submissions.{IsLimit}
pub use Rattle.act_rules.specs.Words.{arg_at, caller_at, is_integer, is_numeral, marked_at, ◌>>=◌}
pub use Rattle.act_rules.specs.declared.script.Role.{Role}
pub use Rattle.act_rules.specs.declared.script.Wrong.{Wrong}
pub use Rattle.act_rules.specs.declared.script.Wrong.TheVariants.{BadLine, LateActor, TwiceActor, TwiceCaller}
pub use Rattle.act_scripts.specs.Gives.{Fails}
pub use Rattle.act_scripts.specs.Roles.{AreFitting, AreSound}
pub use Rattle.act_scripts.specs.Spelled.{FailsAt, count_of, fault_at_line, mode_of, spelled_script}
pub use Rattle.act_scripts.specs.declared.line.LineFault.{LineFault}
pub use Rattle.act_types.specs.declared.limits.TheConstants.{MAX_LINE_BYTES}
pub use Rattle.std.proofs.Common.{All, AllPairs, Bool, Bor, Err, List, MatchResult, None, Ok, Result, Some, [], add-one, ap, append-nil, append_assoc, arith}
pub use Rattle.std.proofs.Common.{drop, drop-cons, eq-eqb, false, get_or, if◌then◌else◌, inl, inr, length, length-append, length-take, map, nat_lt, neg_ℤ, not}
pub use Rattle.std.proofs.Common.{pos, refl, rules, slice_index, subst, sym, take, take-append-drop, take_all, tests, true, true≢false, ℕ, ℤ, ◌++◌, ◌+◌, ◌-◌}
pub use Rattle.std.proofs.Common.{◌<◌, ◌==◌, ◌^◌, ◌||◌, ◌∙◌, ◌∷◌, ◌≡◌, ◌≢◌, ◌≤◌}
pub use Rattle.std.proofs.Math.Dec.{eqb}
pub use Rattle.std.proofs.Math.ListN.{drop_of_length-le}
pub use Rattle.std.proofs.lemmas.Bool.{and_parts, eqb-true, lt-ltb, or_parts}
pub use Rattle.std.proofs.lemmas.Bool.Decides.{Decides-eqb, eqb_tells, nat_tests}
pub use Rattle.std.proofs.lemmas.List.{at_drop_more, drop-append-le, drop-take, drop_all, get_or-map, length-map, map-append, take_more}
pub use Rattle.std.proofs.lemmas.List.Elements.{All-cons, All-map, All-push, recursion_from_All}
pub use Rattle.std.proofs.lemmas.List.Folds.{Any-from_list_any, list_all-append, list_all_more, list_any_at}
pub use Rattle.std.proofs.lemmas.List.Kept.{AllPairs-cons}
pub use Rattle.std.proofs.lemmas.List.Quantifiers.{all_pairs_push}
pub use Rattle.std.proofs.lemmas.List.Splits.{length-slice_split, slice_split-cons_no, slice_split-cons_yes}
pub use Rattle.std.proofs.lemmas.Map.Keys.{IsDistinct-cons}
pub use Rattle.std.proofs.lemmas.Map.Made.{IsDistinct-from_AllPairs}
pub use Rattle.std.proofs.lemmas.Map.Steps.{length-le_from_distinct_below}
pub use Rattle.std.proofs.lemmas.Result.{err_from_is_err_and}
pub use Rattle.std.proofs.lemmas.Str.Ascii.{IsAscii-cons, IsAscii-nil}
pub use Rattle.std.proofs.lemmas.Str.Parse.{parse_plain, parse_signed_digits, parse_signed_minus}
pub use Rattle.std.proofs.lemmas.Str.Pattern.{strip_prefix_char, strip_suffix_char}
pub use Rattle.std.specs.Int.{w64}
pub use Rattle.std.specs.List.{IsDistinct, list_all, list_any, onto_first, slice_split}
pub use Rattle.std.specs.Str.{IsAscii}
pub use Rattle.std.specs.Str.Parse.{ParsesSigned, ParsesUnsigned, digits_value}
