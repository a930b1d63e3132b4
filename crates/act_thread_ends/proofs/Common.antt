-- The names of specifications and of the crates below that most proofs here cite, passed on from one place.
pub use Rattle.act_early.specs.Lists.{AreOthers, DoesStepBy, DoesStepsBy, KeepsToPlans, is_step_by}
pub use Rattle.act_executor.specs.Joined.{IsJoined, calls_in, calls_of_owner, end_of, kept_in, kept_of_owner, log_in, log_of_end, owner_of}
pub use Rattle.act_executor.specs.PlanPlays.{DoesPlanIn, DoesStepIn, IsMeanwhile, IsPlayOfPlans, IsPlayedAsPlanned, step_of}
pub use Rattle.act_owner.specs.Owner.{OwnerView}
pub use Rattle.act_plans.specs.Runs.{actors_of_casts, callers_of_casts, plan_of, steps_of_plan}
pub use Rattle.act_rules.proofs.Elements.{IsIn, all_in, any_is, contains_is, finds, found_is, in_filter, in_from_contains}
pub use Rattle.act_rules.proofs.Unique.{held_submission, map-slice_get}
pub use Rattle.act_rules.specs.History.{ActorSpec, History, calls_of, cast_of, contains, copies_of, is_caller, is_dead, is_ended, is_retired, kept_of, names}
pub use Rattle.act_rules.specs.History.{opening, runs_of}
pub use Rattle.act_rules.specs.Report.{one_to}
pub use Rattle.act_rules.specs.Submissions.{copy_refusal, handle_refusal, kept_at}
pub use Rattle.act_rules.specs.declared.event.Event.{Event}
pub use Rattle.act_rules.specs.declared.script.Step.{Step}
pub use Rattle.act_rules.specs.declared.script.Step.TheVariants.{Copy, Kill, Release, Submit}
pub use Rattle.act_serve.specs.Served.{EndView, Killed, Retired, Starved, end_id}
pub use Rattle.act_thread_ends.specs.ThreadEnds.{AreOfARun, CanBeEndIn, CanEnd, EndsAsThreads}
pub use Rattle.act_types.specs.declared.limits.TheConstants.{MAX_ACTORS, MAX_CALLERS}
pub use Rattle.std.proofs.Common.{All, Bool, Contains, List, None, Option, Some, [], ap, arith, cond, false, length, map, refl, slice_get, subst, suc, sym}
pub use Rattle.std.proofs.Common.{true, ℕ, ◌++◌, ◌<◌, ◌==◌, ◌||◌, ◌∙◌, ◌∷◌, ◌≡◌}
pub use Rattle.std.proofs.lemmas.Bool.{eq-eqb, eqb-true, or_right}
pub use Rattle.std.proofs.lemmas.List.Elements.{All-cons, All-map, All-weaker}
pub use Rattle.std.specs.List.{list_any}
pub use Rattle.std.specs.Prelude.{IsOk, find, is_some}
