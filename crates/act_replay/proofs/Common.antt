-- The names of specifications and of the crates below that most proofs here cite, passed on from one place.
pub use Rattle.act_actor.specs.Cast.{CallersDiffer, IsFitting}
pub use Rattle.act_actor.specs.Casts.{actor_spec}
pub use Rattle.act_actor.specs.declared.cast.Cast.{Cast}
pub use Rattle.act_compare.specs.Same.{AreSame}
pub use Rattle.act_executor.specs.Joined.{IsJoined, RanAll, calls_in, calls_of_owner, is_killed_end, is_starved, kept_in, kept_of_owner, killed_in, log_in}
pub use Rattle.act_executor.specs.Joined.{log_of_end}
pub use Rattle.act_executor.specs.PlanPlays.{DoesPlanIn, IsMeanwhile, step_of}
pub use Rattle.act_executor.specs.Plays.{IsEndIn, IsOwnerIn, IsPlayOf}
pub use Rattle.act_executor.specs.Runs.{IsFault, plan_view}
pub use Rattle.act_mailbox.specs.declared.thread.Page.{Page}
pub use Rattle.act_owner.proofs.Told.{is_death-only}
pub use Rattle.act_owner.specs.Owner.{OwnerView, is_death}
pub use Rattle.act_plans.specs.Runs.{first_bad_plan, limits_naming, plan_of, steps_of_plan}
pub use Rattle.act_replay.specs.AwaitCircle.{IsUnplanned, await_calls, await_end, await_ends, await_log, await_owner, await_owners, await_plan, await_plans}
pub use Rattle.act_replay.specs.Circle.{HasAllOf, IsNoPlay, IsUnplayed, circle_calls, circle_cast, circle_casts, circle_end, circle_ends, circle_log}
pub use Rattle.act_replay.specs.Circle.{circle_owners, circle_plan, circle_plans, circle_push, circle_ran, first_future, five_arg, owner}
pub use Rattle.act_replay.specs.Faults.{IsPlayFault, IsRecordFault}
pub use Rattle.act_replay.specs.Notes.{AreWhole, marks_of}
pub use Rattle.act_replay.specs.Play.{IsSameEnd}
pub use Rattle.act_replay.specs.declared.run.RecordFault.{RecordFault}
pub use Rattle.act_replay.specs.declared.run.RecordFault.TheVariants.{Unplayed}
pub use Rattle.act_rules.proofs.Ended.{dead_stays, under-push}
pub use Rattle.act_rules.proofs.Growth.{added_grows, calls_grow, runs_grow}
pub use Rattle.act_rules.proofs.Lists.{All-two, front_trans, slice_get_front, whole_front}
pub use Rattle.act_rules.proofs.Sound.{IsSound, consistent, sound_step, world_sound}
pub use Rattle.act_rules.proofs.Steps.{IsKept, after_all-append, after_all_keeps}
pub use Rattle.act_rules.proofs.Unique.{held_submission}
pub use Rattle.act_rules.specs.Consistent.{Consistent, IsAnswerOfRun, IsAsSubmitted, IsPrefix}
pub use Rattle.act_rules.specs.History.{ActorSpec, History, actors_naming, calls_of, cast_of, is_caller, is_dead, is_retired, kept_of, next_item, opening}
pub use Rattle.act_rules.specs.History.{opening_of, runs_of}
pub use Rattle.act_rules.specs.Laws.{history}
pub use Rattle.act_rules.specs.Plans.{kills_to, planned}
pub use Rattle.act_rules.specs.Rules.{Outcome, add_event, after, after_all, after_by, after_run, outcomes, refusal_of}
pub use Rattle.act_rules.specs.RunList.{Answer, NothingFollowsAnEnd, has_terminated, items_of}
pub use Rattle.act_rules.specs.Submissions.{IsLimit, calls_to, kept_at, settle, settled_future}
pub use Rattle.act_rules.specs.declared.event.Event.{Event}
pub use Rattle.act_rules.specs.declared.event.Event.TheVariants.{AskKill, Collect, Copy, Deliver, Release, Retire, Run, Send, Submit, TakeKill, Tell}
pub use Rattle.act_rules.specs.declared.history.RunItem.{RunItem}
pub use Rattle.act_rules.specs.declared.history.Submission.{Submission}
pub use Rattle.act_rules.specs.declared.outcome.WorldRefusal.{WorldRefusal}
pub use Rattle.act_rules.specs.declared.script.Step.{Step}
pub use Rattle.act_serve.specs.Served.{EndView, IfRetired, Killed, Retired, Starved, end_id, end_view}
pub use Rattle.act_serve.specs.declared.turn.Finished.{Finished}
pub use Rattle.act_types.specs.KindState.{KindState}
pub use Rattle.act_types.specs.declared.call.Arg.{Arg}
pub use Rattle.act_types.specs.declared.call.Fault.TheVariants.{ActorDied}
pub use Rattle.act_types.specs.declared.call.Method.{Method}
pub use Rattle.act_types.specs.declared.call.Method.TheVariants.{Push}
pub use Rattle.act_types.specs.declared.call.Settled.TheVariants.{Good}
pub use Rattle.act_types.specs.declared.call.Value.{Value}
pub use Rattle.act_types.specs.declared.call.Value.TheVariants.{Int}
pub use Rattle.act_world.specs.IsReachedBy.{HasPlayed, IsReachedBy}
pub use Rattle.act_world.specs.Refines.{IsOwnerAt, IsStage}
pub use Rattle.act_world.specs.View.{Died, Ended, Runs, SlotView, Vacant, WorldView, stage_view, world_view}
pub use Rattle.std.proofs.Common.{All, AllPairs, Bool, Err, IsOk, IsTrue, List, None, Ok, Option, Some, [], ap, append-nil, append_assoc, arith, cond, false}
pub use Rattle.std.proofs.Common.{get_or, inl, inr, is_some, length, map, ne_eqb, pos, refl, rules, slice_get, subst, suc, sym, take, true, true≢false, zero, ℕ}
pub use Rattle.std.proofs.Common.{◌++◌, ◌+◌, ◌<◌, ◌==◌, ◌↔◌, ◌∙◌, ◌∷◌, ◌≡◌, ◌≢◌, ◌⊎◌}
pub use Rattle.std.proofs.lemmas.Bool.{eqb-true, or_parts}
pub use Rattle.std.proofs.lemmas.List.{get_or-map, length-map}
pub use Rattle.std.proofs.lemmas.List.Elements.{All-map, All-more, recursion_from_All}
pub use Rattle.std.proofs.lemmas.List.Sums.{sum_by_more}
pub use Rattle.std.specs.List.{AllByRecursion, enumerate_from}
