-- The names of specifications and of the crates below that most proofs here cite, passed on from one place.
pub use Rattle.act_drive.specs.Sessions.{SessionView}
pub use Rattle.act_epochs.specs.Epochs.{AreEpochs, Epoch, IsEpoch, cast_of_end, casts_after, casts_left}
pub use Rattle.act_epochs.specs.OverEpochs.{AreConsistent, CastKeeps, GoesOn, IsAnswerOfAllRuns, IsInState, IsOver, ran_in, runs, submitted_in}
pub use Rattle.act_executor.specs.Joined.{IsJoined, RanAll, calls_in, end_of, is_killed, is_killed_end, is_starved, killed_in, log_in, log_of_end}
pub use Rattle.act_plans.specs.Runs.{cast_at, plan_of}
pub use Rattle.act_rules.proofs.Elements.{IsIn, all_in, any_is, empty_by_places, enumerated, finds, found_is}
pub use Rattle.act_rules.proofs.Lists.{AllPairs-map, IsPrefix-map, whole_front}
pub use Rattle.act_rules.proofs.Places.{place_behind}
pub use Rattle.act_rules.specs.Consistent.{IsAnswerOfRun, IsPrefix}
pub use Rattle.act_rules.specs.History.{ActorSpec, actors_naming, contains, opening, opening_of}
pub use Rattle.act_rules.specs.RunList.{Answer, after_item, answer_at, answers_from, items_of, state_after}
pub use Rattle.act_rules.specs.Submissions.{calls_to}
pub use Rattle.act_rules.specs.declared.history.RunItem.{RunItem}
pub use Rattle.act_rules.specs.declared.history.Submission.{Submission}
pub use Rattle.act_serve.specs.Served.{EndView, IfRetired, Retired, end_id}
pub use Rattle.act_types.specs.KindState.{KindState, OwnAt}
pub use Rattle.std.proofs.Common.{All, AllPairs, List, None, Option, Some, [], ap, append-nil, append_assoc, arith, false, get_or, length, refl, subst, suc}
pub use Rattle.std.proofs.Common.{sym, true, zero, ℕ, ◌++◌, ◌+◌, ◌∙◌, ◌∷◌, ◌≡◌, ◌≢◌, ◌≤◌}
pub use Rattle.std.proofs.lemmas.Grind.{flat_map-append}
pub use Rattle.std.proofs.lemmas.List.Elements.{All-append, All-cons, All-map, All-nil, All-weaker}
pub use Rattle.std.proofs.lemmas.List.Kept.{AllPairs-cons, AllPairs-filter}
pub use Rattle.std.specs.List.{cons_option, enumerate_from, list_any}
pub use Rattle.std.specs.Prelude.{filter, filter_map, flat_map, map, option_and_then, option_map, slice_get, ◌==◌}
