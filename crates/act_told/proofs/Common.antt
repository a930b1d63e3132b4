-- The names of specifications and of the crates below that most proofs here cite, passed on from one place.
pub use Rattle.act_rules.proofs.Places.{place_behind}
pub use Rattle.act_executor.specs.Joined.{IsJoined, RanAll, calls_in, calls_of_owner, end_of, is_killed, is_killed_end, kept_in, kept_of_owner, log_in}
pub use Rattle.act_executor.specs.Joined.{log_of_end, owner_of}
pub use Rattle.act_lists.proofs.Lists.{element, map_alike, slice_get_more}
pub use Rattle.act_lists.proofs.Options.{cond_none}
pub use Rattle.act_orders.proofs.Lists.{found_before, has_before}
pub use Rattle.act_orders.specs.Order.{IsNext, SameWay, actor_of, call_of, calls_run}
pub use Rattle.act_orders.specs.declared.told.Call.{Call}
pub use Rattle.act_orders.specs.declared.told.Outcome.TheVariants.{Died, Failed, Open}
pub use Rattle.act_orders.specs.declared.told.Run.{Run}
pub use Rattle.act_owner.proofs.Told.{is_death-only}
pub use Rattle.act_owner.specs.Owner.{OwnerView, call_at, future_of_arg, futures_of_args, is_death, numbered_call, submission_of}
pub use Rattle.act_rules.proofs.Finding.{position_or_len-Some}
pub use Rattle.act_rules.proofs.Lists.{All_at, slice_get-enumerate_from, slice_get-filter, slice_get_front}
pub use Rattle.act_rules.proofs.Order.{numbered, numbers}
pub use Rattle.act_rules.proofs.Unique.{enumerate-slice_get, map-slice_get, rank, same_place}
pub use Rattle.act_rules.specs.Consistent.{IsAsSubmitted, IsPrefix}
pub use Rattle.act_rules.specs.History.{ActorSpec, contains}
pub use Rattle.act_rules.specs.Report.{one_to}
pub use Rattle.act_rules.specs.RunList.{Answer, items_of}
pub use Rattle.act_rules.specs.Submissions.{calls_to, kept_at}
pub use Rattle.act_rules.specs.declared.history.RunItem.{RunItem}
pub use Rattle.act_rules.specs.declared.history.Submission.{Submission}
pub use Rattle.act_rules.specs.declared.script.Step.{Step}
pub use Rattle.act_serve.specs.Served.{EndView, IfRetired, Killed, Retired, end_id, end_log, end_view}
pub use Rattle.act_serve.specs.declared.turn.Finished.{Finished}
pub use Rattle.act_told.specs.InOrder.{StandsAsItsActor}
pub use Rattle.act_told.specs.Starts.{AreSmall, run_by, runs_by, start_in, starts_from}
pub use Rattle.act_told.specs.Told.{actor_place, actor_told, call_told, callers_told, calls_from, calls_told, end_told, outcome_of, run_told, runs_told}
pub use Rattle.act_told.specs.Told.{start_of, takes_told, told_by}
pub use Rattle.act_types.specs.declared.call.Arg.{Arg}
pub use Rattle.act_types.specs.declared.call.Fault.TheVariants.{ActorDied}
pub use Rattle.act_types.specs.declared.limits.TheConstants.{MAX_ACTORS, MAX_CALLERS}
pub use Rattle.std.proofs.Common.{Bool, Err, IsTrue, List, None, Ok, Option, Some, [], add-one, ap, append_assoc, arith, cond, drop, drop-cons, false, filter}
pub use Rattle.std.proofs.Common.{find, get_or, if◌then◌else◌, inl, inr, length, map, nat_lt, not, option_map, position, refl, slice_get, subst, suc, sym, take}
pub use Rattle.std.proofs.Common.{true, zero, ℕ, ◌++◌, ◌+◌, ◌<◌, ◌==◌, ◌^◌, ◌∙◌, ◌∷◌, ◌≡◌, ◌≤◌, ◌⊎◌}
pub use Rattle.std.proofs.Math.Seq.{take-suc}
pub use Rattle.std.proofs.lemmas.Bool.{cases_lt, eq-eqb, eqb-true, ltb-false, ne_eqb}
pub use Rattle.std.proofs.lemmas.List.{drop-map, get_or_past, length-append, length-map, map-append}
pub use Rattle.std.proofs.lemmas.List.Elements.{All-push, filter_map-append}
pub use Rattle.std.proofs.lemmas.List.Recursion.{is_position_or_len}
pub use Rattle.std.proofs.lemmas.List.Sums.{passes_at_first, position_or_len_is, prefix_len-le-length}
pub use Rattle.std.proofs.lemmas.Option.{get_or_from_slice_get, slice_get-get_or, slice_get-map, slice_get_within}
pub use Rattle.std.specs.List.{Contains, enumerate_from, list_any, position_or_len}
