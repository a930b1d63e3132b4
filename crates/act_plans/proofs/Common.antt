-- The names of specifications and of the crates below that most proofs here cite, passed on from one place.
pub use Rattle.act_actor.proofs.ActorSpecs.{actors_naming-actor_spec}
pub use Rattle.act_actor.proofs.Pairs.{differ_more, differ_not, pairs_all}
pub use Rattle.act_actor.specs.Cast.{ActorsDiffer, CallersDiffer, IsFitting}
pub use Rattle.act_actor.specs.Casts.{actor_limit, actor_spec, actors_that_name, limits_that_name}
pub use Rattle.act_actor.specs.declared.cast.Cast.{Cast}
pub use Rattle.act_handles.proofs.Copies.{copy_copies, release_copies}
pub use Rattle.act_handles.proofs.Lookups.{copies-opened, copies-with_number, given_of_all-opened}
pub use Rattle.act_handles.specs.Handles.{change_handle, copies_in, copy_answer, given_of_all, is_of, new_handle, number_answer, number_refusal, or_else}
pub use Rattle.act_handles.specs.Handles.{release_answer, with_copy, with_number, without_copy}
pub use Rattle.act_handles.specs.declared.handles.Handle.{Handle}
pub use Rattle.act_lists.proofs.Lists.{filter_mapped}
pub use Rattle.act_plans.specs.PlanChecks.{ChecksStep, IsAfter}
pub use Rattle.act_plans.specs.Prepared.{HasNumbers, Role, bad_of_setup, plan_in, setup_of, setup_view, steps_given}
pub use Rattle.act_plans.specs.Setups.{AreMatched, HasLimits, PlansFit, most_steps}
pub use Rattle.act_plans.specs.declared.plan_checker.PlanChecker.{PlanChecker}
pub use Rattle.act_plans.specs.declared.rising.CallerSetup.{CallerSetup}
pub use Rattle.act_rules.proofs.Ended.{needs-none}
pub use Rattle.act_rules.proofs.Finding.{find-None}
pub use Rattle.act_rules.proofs.Lists.{find-map, list_any-map}
pub use Rattle.act_rules.specs.History.{ActorSpec, actors_naming as naming_view, contains}
pub use Rattle.act_rules.specs.Plans.{Progress, do_step, first_bad, first_bad_from, holds, is_refused, nothing_done}
pub use Rattle.act_rules.specs.Report.{one_to}
pub use Rattle.act_rules.specs.Submissions.{IsLimit, copies_held, copy_refusal, handle_refusal, is_earlier, submit_refusal}
pub use Rattle.act_rules.specs.declared.outcome.HandleRefusal.{HandleRefusal}
pub use Rattle.act_rules.specs.declared.script.Step.{Step}
pub use Rattle.act_rules.specs.declared.script.Step.TheVariants.{Copy, Release, Submit}
pub use Rattle.act_types.specs.KindState.{KindState}
pub use Rattle.act_types.specs.declared.call.Arg.{Arg}
pub use Rattle.act_types.specs.declared.call.Method.{Method}
pub use Rattle.std.proofs.Common.{All, AllPairs, Bool, Contains, Err, List, None, Ok, OnOk, Option, Result, Some, [], add-one, ap, append-nil, arith, drop}
pub use Rattle.std.proofs.Common.{eq-eqb, false, filter, filter_map, find, get_or, if◌then◌else◌, inl, inr, is_some, length, length-append, map, nat_le, nat_lt}
pub use Rattle.std.proofs.Common.{not, option_map, position, refl, rules, slice_get, subst, suc, sym, take, tests, true, true≢false, zero, ℕ, ◌&&◌, ◌++◌, ◌+◌}
pub use Rattle.std.proofs.Common.{◌-◌, ◌<◌, ◌==◌, ◌||◌, ◌∙◌, ◌∷◌, ◌≡◌, ◌≢◌, ◌≤◌}
pub use Rattle.std.proofs.Math.Bool.{or-false}
pub use Rattle.std.proofs.lemmas.Bool.{eqb-true, le-leb, ne_eqb}
pub use Rattle.std.proofs.lemmas.Bool.Decides.{eqb_tells, leb_tells}
pub use Rattle.std.proofs.lemmas.Iterator.{YieldsList-from_slice}
pub use Rattle.std.proofs.lemmas.Iterator.Search.{position_from_yields_List}
pub use Rattle.std.proofs.lemmas.List.{drop_more, get_or-map, length-map, map-append, map_push, take-append-drop, take_all, take_more}
pub use Rattle.std.proofs.lemmas.List.Elements.{All-cons, All-filter, All-map, All-more, All-nil, All-push, All-weaker, Contains-append_left}
pub use Rattle.std.proofs.lemmas.List.Elements.{Contains-append_right, Contains-push, filter-append, filter_agree, filter_map-append}
pub use Rattle.std.proofs.lemmas.List.Folds.{find_at, list_any_at, list_any_none}
pub use Rattle.std.proofs.lemmas.List.Kept.{AllPairs-filter}
pub use Rattle.std.proofs.lemmas.List.Quantifiers.{all_pairs_push}
pub use Rattle.std.proofs.lemmas.List.Sums.{list_all-from_AllPass, passes_at_first}
pub use Rattle.std.proofs.lemmas.Option.{get_or_from_slice_get, slice_get-get_or, slice_get_within}
pub use Rattle.std.proofs.lemmas.Simd.{map-map}
pub use Rattle.std.specs.Global.{Vec}
pub use Rattle.std.specs.List.{cons_option, fold, list_all, list_any, position_or_len, remove}
pub use Rattle.std.specs.Result.{is_err, is_ok}
