-- The names of specifications and of the crates below that most proofs here cite, passed on from one place.
pub use Rattle.act_actor.specs.Cast.{CallersDiffer, IsFitting}
pub use Rattle.act_actor.specs.Casts.{actor_spec}
pub use Rattle.act_actor.specs.declared.cast.Cast.{Cast}
pub use Rattle.act_console.specs.Console.{IsPlayOutput, ScriptPlayed}
pub use Rattle.act_console.specs.Input.{IsWholeInput}
pub use Rattle.act_console.specs.Output.{AppendsPrefix, Wrote}
pub use Rattle.act_console.specs.Parts.{AreTold, caller_lines, owner_line, owner_lines, stage_lines, standing_in, standing_text, world_report}
pub use Rattle.act_console.specs.Plans.{AreSorted, Explains, HasLine, add_step, first_stranger, line_in, plan_from, script_of, step_line_view, step_view}
pub use Rattle.act_console.specs.Plans.{with_step}
pub use Rattle.act_console.specs.Stock.{HasEach, HasOf}
pub use Rattle.act_console.specs.Threads.{IsSummary, IsThreadsOutput, IsToldOf, Threaded, end_lines_in, end_text, end_text_in, joined_summary, owner_lines_in}
pub use Rattle.act_console.specs.Threads.{plans_in, spelled_threads}
pub use Rattle.act_console.specs.declared.console.Stock.{Stock}
pub use Rattle.act_console.specs.declared.fault.ConsoleFault.{ConsoleFault}
pub use Rattle.act_console.specs.declared.streams.Output.{Output}
pub use Rattle.act_console.specs.declared.streams.Output.TheVariants.{Refusal, Report}
pub use Rattle.act_console.specs.declared.threads.Sorted.{Sorted}
pub use Rattle.act_console.specs.declared.threads.StepAt.{StepAt}
pub use Rattle.act_executor.proofs.PlaysOfThreads.AsPlay.{casts_stay}
pub use Rattle.act_executor.specs.Joined.{IsJoined, RanAll, calls_in, calls_of_owner, end_of, kept_in, kept_of_owner, log_in, log_of_end, owner_of}
pub use Rattle.act_executor.specs.PlanPlays.{IsPlayedAsPlanned}
pub use Rattle.act_executor.specs.Plays.{IsEndIn, IsOwnerIn, IsPlayOf}
pub use Rattle.act_executor.specs.Runs.{IsFault, plan_view}
pub use Rattle.act_executor.specs.declared.run.RunFault.{RunFault}
pub use Rattle.act_lists.proofs.Lists.{element}
pub use Rattle.act_lists.proofs.Texts.{appends_more}
pub use Rattle.act_owner.specs.Owner.{OwnerView}
pub use Rattle.act_plans.proofs.Keys.{none_any, pairs_of_map}
pub use Rattle.act_plans.proofs.Matching.{numbers_differ}
pub use Rattle.act_plans.proofs.Numbers.{fails_more, in_one_to, passes_more}
pub use Rattle.act_plans.proofs.Taking.{find_some}
pub use Rattle.act_plans.specs.Runs.{bad_step_of, callers_of_casts as callers_cast, first_bad_plan, plan_of as plan_among, steps_of_plan}
pub use Rattle.act_plans.specs.Setups.{PlansFit}
pub use Rattle.act_rules.proofs.Elements.{all_in, all_of_map, found_is}
pub use Rattle.act_rules.proofs.Finding.{find-None}
pub use Rattle.act_rules.proofs.Lists.{filter_map-same, find-map, length-filter_least, list_any-map, numbers_alike}
pub use Rattle.act_rules.proofs.Steps.{after_all-append, outcomes-append}
pub use Rattle.act_rules.specs.Grammar.{Script, Script as Spelled, spelled}
pub use Rattle.act_rules.specs.History.{ActorSpec, History, actors_naming, calls_of, cast_of, contains, is_caller, is_dead, is_retired, kept_of, opening}
pub use Rattle.act_rules.specs.History.{runs_of}
pub use Rattle.act_rules.specs.Laws.{history}
pub use Rattle.act_rules.specs.Plans.{Progress, do_step, first_bad, first_bad_from, is_refused, nothing_done}
pub use Rattle.act_rules.specs.Report.{actor_lines, future_line, future_lines, future_text, item_line, kept_text, line, numbered_lines, one_to, outcome_line}
pub use Rattle.act_rules.specs.Report.{outcome_lines, report, stage_of, stage_text, summary, summary_of}
pub use Rattle.act_rules.specs.Rules.{Outcome, after_all, outcome_of, outcomes}
pub use Rattle.act_rules.specs.RunList.{Answer, state_after}
pub use Rattle.act_rules.specs.Scripts.{actor_spec_of, actors_of_roles, bad_line, bad_lines, callers_of_roles, is_too_many, or_fault, plan_in_script, text_of}
pub use Rattle.act_rules.specs.Scripts.{with_good_plans}
pub use Rattle.act_rules.specs.Submissions.{IsLimit, kept_at}
pub use Rattle.act_rules.specs.declared.event.Event.{Event}
pub use Rattle.act_rules.specs.declared.history.RunItem.{RunItem}
pub use Rattle.act_rules.specs.declared.history.Submission.{Submission}
pub use Rattle.act_rules.specs.declared.script.KindName.{KindName}
pub use Rattle.act_rules.specs.declared.script.Mode.TheVariants.{Play, Threads}
pub use Rattle.act_rules.specs.declared.script.Role.{Role}
pub use Rattle.act_rules.specs.declared.script.Step.{Step}
pub use Rattle.act_rules.specs.declared.script.Wrong.{Wrong}
pub use Rattle.act_rules.specs.declared.script.Wrong.TheVariants.{BadPlan, TooMany}
pub use Rattle.act_scripts.specs.Roles.{AreFitting}
pub use Rattle.act_scripts.specs.Spelled.{FailsAt, events_among, spelled_script, steps_among as items_steps}
pub use Rattle.act_scripts.specs.declared.line.ScriptFault.{ScriptFault}
pub use Rattle.act_scripts.specs.declared.script.Items.{Items}
pub use Rattle.act_scripts.specs.declared.script.Items.TheVariants.{Steps}
pub use Rattle.act_serve.specs.Served.{EndView, IfRetired, Killed, Retired, Starved, end_id, end_log, end_view}
pub use Rattle.act_serve.specs.declared.turn.Finished.{Finished}
pub use Rattle.act_types.specs.KindState.{KindState}
pub use Rattle.act_types.specs.Texts.{actor_text, settled_text, space}
pub use Rattle.act_types.specs.declared.limits.TheConstants.{MAX_SCRIPT_BYTES}
pub use Rattle.act_world.proofs.Headline.{calls_are, kept_are, logs_are}
pub use Rattle.act_world.proofs.Lawful.{world_lawful}
pub use Rattle.act_world.specs.Headline.{slot_log, world_kept, world_log}
pub use Rattle.act_world.specs.IsReachedBy.{HasPlayed, HasRoom, IsGrown, IsReachedBy}
pub use Rattle.act_world.specs.Network.{is_owner}
pub use Rattle.act_world.specs.Refines.{IsStage}
pub use Rattle.act_world.specs.View.{Died, Ended, Runs, SlotView, Vacant, WorldView, stage_in, stage_of_slot, stage_view, world_view}
pub use Rattle.std.proofs.Common.{All, AllPairs, Bool, Err, IfSome, IsSome, List, None, Ok, Option, Result, Some, [], add-one, ap, append_assoc, arith, cond}
pub use Rattle.std.proofs.Common.{decimal, drop, drop-cons, eq-eqb, false, filter, filter_map, find, get_or, if◌then◌else◌, inl, inr, is_some, length}
pub use Rattle.std.proofs.Common.{length-append, map, nat_lt, not, option_and_then, option_copied, option_map, position, refl, reverse, rules, slice_get}
pub use Rattle.std.proofs.Common.{string_bytes, subst, suc, sym, take, true, vec_len, zero, ℕ, ◌&&◌, ◌++◌, ◌+◌, ◌-◌, ◌<◌, ◌==◌, ◌||◌, ◌∙◌, ◌∷◌, ◌≡◌, ◌≢◌, ◌≤◌}
pub use Rattle.std.proofs.KnownBytes.{Keeps-refl}
pub use Rattle.std.proofs.Math.Bool.{or-true}
pub use Rattle.std.proofs.Math.ListN.{drop_of_length-le, set}
pub use Rattle.std.proofs.lemmas.Bool.{eqb-true, ne_eqb, or_parts}
pub use Rattle.std.proofs.lemmas.Bool.Decides.{eqb_tells, leb_tells, nat_tests}
pub use Rattle.std.proofs.lemmas.Fmt.{IsAscii-decimal, length-decimal-le}
pub use Rattle.std.proofs.lemmas.Grind.{flat_map-append}
pub use Rattle.std.proofs.lemmas.List.{append-nil, drop_more, get_or-map, length-drop, length-map, map-append, map_push, nil_from_length, reverse-append}
pub use Rattle.std.proofs.lemmas.List.{reverse-reverse, take-append-drop, take_all, take_more, take_rest}
pub use Rattle.std.proofs.lemmas.List.Elements.{All-cons, All-map, filter-append, filter_agree, filter_passes}
pub use Rattle.std.proofs.lemmas.List.Folds.{flat_map-map, list_any_at}
pub use Rattle.std.proofs.lemmas.List.Kept.{AllPairs-filter}
pub use Rattle.std.proofs.lemmas.Option.{slice_get-get_or, slice_get-map, slice_get_past}
pub use Rattle.std.proofs.lemmas.Result.{IfOk-equal, IfOk-weaker}
pub use Rattle.std.proofs.lemmas.Str.{IsAscii-append, IsUtf8-from_ascii}
pub use Rattle.std.specs.Global.{Vec}
pub use Rattle.std.specs.Io.KnownBytes.{Appends, Consumes}
pub use Rattle.std.specs.List.{AllByRecursion, flat_map, list_any, position_or_len}
pub use Rattle.std.specs.Option.{option_map_or}
pub use Rattle.std.specs.Str.{IsAscii}
pub use Rattle.std.specs.Vec.Iter.{into_iter_items, into_iter_len}
