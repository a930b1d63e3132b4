-- The names of specifications and of the crates below that most proofs here cite, passed on from one place.
pub use Rattle.act_actor.specs.Actor.{item_of}
pub use Rattle.act_actor.specs.Casts.{actor_spec}
pub use Rattle.act_actor.specs.declared.cast.Cast.{Cast}
pub use Rattle.act_early.proofs.Choices.{choices_same, heard_quiet}
pub use Rattle.act_early.proofs.Choosing.{run_more}
pub use Rattle.act_early.proofs.Counting.{occurrences-push}
pub use Rattle.act_rules.proofs.Callers.{named_among}
pub use Rattle.act_early.proofs.Notes.{notes_sent}
pub use Rattle.act_early.proofs.Quiesces.{Quiesces, death_quiesces, quiesces_same, quiesces_trans, quiet_quiesces, skip_quiesces, step_quiesces}
pub use Rattle.act_early.proofs.Worlds.{IsWorld, either_of, not_dead, not_so, take_needs, world, world as world_of}
pub use Rattle.act_early.specs.Early.{HasRunMore, HasTakenMore, IsQuiescent, is_heard}
pub use Rattle.act_early.specs.Fronts.{HaveSameChoices}
pub use Rattle.act_early.specs.Plays.{At, Closes, Happens, IsPlay, MayTake, Opens, next_step, opened, skipped, steps_of, taken, with_event}
pub use Rattle.act_handles.specs.Handles.{copies_in}
pub use Rattle.act_lists.proofs.Lists.{element, get_set-other, get_set-same, map_none, slice_get_last}
pub use Rattle.act_owner.specs.Owner.{OwnerView, first_ready, is_known_call, is_known_dead, is_ready, is_sent, refusal_to_submit}
pub use Rattle.act_plan_plays.specs.Moves.{AllRuns, Does, HasDone, HasNoStep, IsDone, Moves, held, is_left_out, may_take, shows_dead, shows_live, shows_next}
pub use Rattle.act_plan_plays.specs.Parts.{HasAsked, HasSteps, IsBehind, IsBrought, Parts, Stands, after_mail, after_move, after_post, parts_of}
pub use Rattle.act_plan_plays.specs.Play.{AllThrough, HasAnswers, HasChosen, HoldPlans, IsPart, IsThrough, PlanPlayView, StandsAt, play_view}
pub use Rattle.act_plan_plays.specs.Prepared.{plans_given}
pub use Rattle.act_plan_plays.specs.Retired.{AllOver, GoesOnRetired, IsRetiredFrom}
pub use Rattle.act_plan_plays.specs.View.{PlanPlayOf}
pub use Rattle.act_plan_plays.specs.declared.choice.Choice.{Choice}
pub use Rattle.act_plan_plays.specs.declared.choice.Choice.TheVariants.{Run, Take}
pub use Rattle.act_plans.proofs.ActorSpecs.{actors_are, plan_of_view, plans_are, setups_view}
pub use Rattle.act_plans.specs.Prepared.{HasNumbers, callers_named_by, plan_in, setup_of, setup_view, steps_given}
pub use Rattle.act_plans.specs.Setups.{PlansFit}
pub use Rattle.act_plans.specs.declared.rising.CallerSetup.{CallerSetup}
pub use Rattle.act_rules.proofs.Ended.{contains_more, contains_push, ended_stays, needs-none, run_needs}
pub use Rattle.act_rules.proofs.Events.{some_cast}
pub use Rattle.act_rules.proofs.Growth.{added_grows}
pub use Rattle.act_rules.proofs.Letters.{has_front, has_last, letter_is}
pub use Rattle.act_rules.proofs.Lists.{front_trans, list_any-map, option_map-none, range_push}
pub use Rattle.act_rules.proofs.RanAll.{Retires, copies_named, named_call, world_retires}
pub use Rattle.act_rules.proofs.Steps.{after_all-append, outcomes-append}
pub use Rattle.act_rules.specs.Consistent.{IsPrefix}
pub use Rattle.act_rules.specs.History.{ActorSpec, History, actors_naming, calls_of, cast_of, contains, copies_of, has_letter, is_caller, is_dead, is_ended}
pub use Rattle.act_rules.specs.History.{is_letter, is_retired, kept_of, names, next_item, opening, runs_of}
pub use Rattle.act_rules.specs.Laws.{history}
pub use Rattle.act_rules.specs.Plans.{occurrences}
pub use Rattle.act_rules.specs.Report.{one_to}
pub use Rattle.act_rules.specs.Rules.{Outcome, add_event, after, after_by, after_run, and_also, call_letter, deliver_refusal, did, did_run, is_last}
pub use Rattle.act_rules.specs.Rules.{letter_actor, outcome_by, outcome_of, outcomes, refusal_of, was_sent}
pub use Rattle.act_rules.specs.RunList.{Answer}
pub use Rattle.act_rules.specs.Submissions.{calls_to, copies_held, copy_refusal, handle_refusal, is_known, kept_at, needs, send_refusal}
pub use Rattle.act_rules.specs.declared.event.Event.{Event}
pub use Rattle.act_rules.specs.declared.event.Event.TheVariants.{Deliver, Retire, Tell}
pub use Rattle.act_rules.specs.declared.history.Letter.{Letter}
pub use Rattle.act_rules.specs.declared.history.Letter.TheVariants.{Note as NoteLetter}
pub use Rattle.act_rules.specs.declared.history.RunItem.{RunItem}
pub use Rattle.act_rules.specs.declared.history.Submission.{Submission}
pub use Rattle.act_rules.specs.declared.outcome.Did.{Did}
pub use Rattle.act_rules.specs.declared.outcome.Did.TheVariants.{Copies, Mail}
pub use Rattle.act_rules.specs.declared.outcome.HandleRefusal.TheVariants.{NoActor, NoHandle, TooManyCopies}
pub use Rattle.act_rules.specs.declared.outcome.SubmitRefusal.{SubmitRefusal}
pub use Rattle.act_rules.specs.declared.outcome.WorldRefusal.{WorldRefusal}
pub use Rattle.act_rules.specs.declared.outcome.WorldRefusal.TheVariants.{ActorEnded, Handle, NoCaller, Sending, Submit as SubmitRefused}
pub use Rattle.act_rules.specs.declared.script.Step.{Step}
pub use Rattle.act_rules.specs.declared.script.Step.TheVariants.{Await, Copy, Kill, Release, Submit}
pub use Rattle.act_types.specs.KindState.{KindState}
pub use Rattle.act_types.specs.declared.call.Arg.{Arg}
pub use Rattle.act_types.specs.declared.call.Packet.{Packet}
pub use Rattle.act_world.proofs.Heard.{death_listed}
pub use Rattle.act_world.proofs.Lists.{read_is}
pub use Rattle.act_world.proofs.NextCall.{item_is, next_is}
pub use Rattle.act_world.proofs.OneCaller.{IsHere}
pub use Rattle.act_world.proofs.Submitting.{submission_refused}
pub use Rattle.act_world.specs.IsReachedBy.{IsReachedBy}
pub use Rattle.act_world.specs.Refines.{IsOwnerOf, IsStage, Refines, is_death_to}
pub use Rattle.act_world.specs.Slots.{has_next_in_slot, is_dead_slot, is_live_slot}
pub use Rattle.act_world.specs.View.{Died, Ended, Runs, SlotView, Vacant, WorldView, stage_of_slot, world_view}
pub use Rattle.act_world.specs.declared.slot.Slot.{Slot}
pub use Rattle.std.proofs.Common.{All, Bool, Contains, Err, IsOk, List, None, Ok, OnOk, Option, Result, Some, [], ap, arith, cond, false, filter, find, get_or}
pub use Rattle.std.proofs.Common.{if◌then◌else◌, inl, inr, is_none, is_ok, is_some, leb, length, map, nat_lt, not, option_map, refl, replicate, slice_get}
pub use Rattle.std.proofs.Common.{slice_set, subst, suc, sym, take, true, zero, ℕ, ◌&&◌, ◌++◌, ◌+◌, ◌-◌, ◌<◌, ◌==◌, ◌||◌, ◌∙◌, ◌∷◌, ◌≡◌, ◌≢◌, ◌≤◌, ◌⊎◌}
pub use Rattle.std.proofs.lemmas.Bool.{and_from, and_parts, cases_lt, eq-eqb, eqb-true, leb-false, leb-true, or_cases, or_left, or_right}
pub use Rattle.std.proofs.lemmas.Bool.Decides.{nat_tests}
pub use Rattle.std.proofs.lemmas.List.{get_or-map, length-map, take_all, take_more}
pub use Rattle.std.proofs.lemmas.List.Elements.{All-append, All-cons, All-nil, All-push, Contains-append_left, Contains-append_right}
pub use Rattle.std.proofs.lemmas.List.Folds.{find-append, list_any-append}
pub use Rattle.std.proofs.lemmas.Option.{get_or_from_slice_get, slice_get_past, slice_get_within}
pub use Rattle.std.specs.Global.{Vec}
pub use Rattle.std.specs.List.{enumerate_from, list_all, list_any, range_with_len}
pub use Rattle.std.specs.Option.{option_map_or, option_or}
