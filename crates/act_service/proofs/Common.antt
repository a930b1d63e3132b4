-- The names of specifications and of the crates below that most proofs here cite, passed on from one place.
pub use Rattle.act_actor.specs.Cast.{CallersDiffer, IsFitting}
pub use Rattle.act_actor.specs.Casts.{actor_spec}
pub use Rattle.act_actor.specs.declared.cast.Cast.{Cast}
pub use Rattle.act_drive.specs.Sessions.{SessionView}
pub use Rattle.act_epochs.proofs.Growing.{are_more, left_more}
pub use Rattle.act_epochs.specs.Epochs.{Epoch, IsEpoch, cast_of_end, casts_left}
pub use Rattle.act_rules.proofs.Elements.{all_of_map, found_passes}
pub use Rattle.act_executor.specs.ByCode.{IsJoinedBy, IsPlayedBy}
pub use Rattle.act_executor.specs.Plays.{IsPlayed}
pub use Rattle.act_executor.specs.Runs.{IsFault, IsThreadFault, plan_view}
pub use Rattle.act_executor.specs.declared.joined.Joined.{Joined}
pub use Rattle.act_executor.specs.declared.run.RunFault.{RunFault}
pub use Rattle.act_lists.proofs.Lists.{tail_apart}
pub use Rattle.act_plans.proofs.Keys.{found_all}
pub use Rattle.act_plans.proofs.Matching.{numbers_differ}
pub use Rattle.act_plans.proofs.Taking.{find_some}
pub use Rattle.act_plans.specs.Runs.{actors_of_casts, bad_step_of, callers_of_casts, cast_at, first_bad_plan}
pub use Rattle.act_rules.proofs.Finding.{find-None}
pub use Rattle.act_rules.proofs.Lists.{find-map}
pub use Rattle.act_rules.specs.History.{ActorSpec}
pub use Rattle.act_rules.specs.Plans.{first_bad}
pub use Rattle.act_rules.specs.Report.{one_to}
pub use Rattle.act_rules.specs.Submissions.{IsLimit}
pub use Rattle.act_rules.specs.declared.script.Step.{Step}
pub use Rattle.act_serve.specs.Served.{EndView, Retired, end_id, end_view}
pub use Rattle.act_serve.specs.declared.turn.Finished.{Finished}
pub use Rattle.act_service.specs.Faults.{IsEpochFault, IsFaultAt, IsFaultOfCodes, IsOfService}
pub use Rattle.act_service.specs.Services.{BecomesKnown, CarriesOver, Given, HaveLed, IsUnderWay, Known, LeadsOn}
pub use Rattle.act_service.specs.Shapes.{cast_left_by, opened_in, shape_of}
pub use Rattle.act_service.specs.declared.epochs.EpochFault.{EpochFault}
pub use Rattle.act_service.specs.declared.epochs.EpochFault.TheVariants.{BadCodes, Run, Service}
pub use Rattle.act_service.specs.declared.shapes.Shape.{Shape}
pub use Rattle.act_types.specs.KindState.{KindState}
pub use Rattle.std.proofs.Common.{All, AllPairs, List, None, Option, Some, [], ap, arith, filter_map, find, inl, inr, map, option_map, position, refl}
pub use Rattle.std.proofs.Common.{slice_get, subst, suc, sym, take, ℕ, ◌++◌, ◌==◌, ◌∙◌, ◌∷◌, ◌≡◌, ◌≢◌}
pub use Rattle.std.proofs.lemmas.Bool.{eqb-true}
pub use Rattle.std.proofs.lemmas.List.{get_or-map, length-map}
pub use Rattle.std.proofs.lemmas.List.Elements.{All-cons, All-map, All-nil}
pub use Rattle.std.proofs.lemmas.List.Kept.{AllPairs-cons, AllPairs-filter}
pub use Rattle.std.specs.List.{cons_option, list_any}
pub use Rattle.std.specs.Vec.Iter.{into_iter_items}
