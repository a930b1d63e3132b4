-- The names of specifications and of the crates below that most proofs here cite, passed on from one place.
pub use Rattle.example_uses.specs.Fronts.{submitted_in}
pub use Rattle.example_uses.specs.OneCall.{asking_owner, question, step_of_question}
pub use Rattle.example_uses.specs.Peaceful.{AllRan, IsPeaceFault, IsServeFault, are_peaceful, cast_for, casts_for, is_mild, is_peaceful}
pub use Rattle.example_uses.specs.declared.peaceful.Kinds.{Kinds}
pub use Rattle.example_uses.specs.declared.peaceful.PeaceFault.{PeaceFault}
pub use Rattle.example_uses.specs.declared.peaceful.PeaceFault.TheVariants.{EndsAnActor, Run, Unfit}
pub use Rattle.actors.proofs.Lemmas.{All_at, All_more, after_all-append, alive_is, answer_alive, err_only, outcomes-append}
pub use Rattle.actors.specs.Actors.{CallersDiffer, IsFitting, actor_spec, after_item, ends_actor, has_terminated, is_end, item_of}
pub use Rattle.actors.specs.Callers.{IsLimit, OwnerView, after_collect, is_death, kept_at}
pub use Rattle.actors.specs.Cast.{Cast}
pub use Rattle.actors.specs.Event.{Event}
pub use Rattle.actors.specs.Fault.TheVariants.{ActorDied}
pub use Rattle.actors.specs.Kinds.{Answer, KindState}
pub use Rattle.actors.specs.Limits.{most_steps}
pub use Rattle.actors.specs.Method.{Method}
pub use Rattle.actors.specs.Notice.TheVariants.{Answered}
pub use Rattle.actors.specs.Packet.{Packet}
pub use Rattle.actors.specs.Reply.{Reply}
pub use Rattle.actors.specs.Rules.{ActorSpec, History, IsAsSubmitted, IsPrefix, Outcome, Progress, actors_naming, after_all, contains, do_step, done_by}
pub use Rattle.actors.specs.Rules.{history, is_refused, kills_to, nothing_done, opening, outcomes}
pub use Rattle.actors.specs.RunItem.{RunItem}
pub use Rattle.actors.specs.Settled.{Settled}
pub use Rattle.actors.specs.Settled.TheVariants.{Good}
pub use Rattle.actors.specs.Step.{Step}
pub use Rattle.actors.specs.Step.TheVariants.{Await, Copy, Kill, Release, Submit}
pub use Rattle.actors.specs.Submission.{Submission}
pub use Rattle.actors.specs.Threads.{EndView, IsFault, IsJoined, PlansFit, calls_in, end_view, kept_in, killed_in, log_in, plan_of, plan_view, steps_of_plan}
pub use Rattle.actors.specs.Value.{Value}
pub use Rattle.actors.specs.Worlds.{HasPlayed, IsReachedBy, WorldView, world_view}
pub use Rattle.std.proofs.Common.{All, AllPairs, Bool, Err, List, None, Option, Some, [], ap, append_assoc, arith, cond, drop, false, find, get_or, is_some}
pub use Rattle.std.proofs.Common.{length, length-drop, map, refl, slice_get, subst, sym, take, true, ℕ, ◌++◌, ◌+◌, ◌-◌, ◌<◌, ◌==◌, ◌∙◌, ◌∷◌, ◌≡◌, ◌≢◌, ◌≤◌}
pub use Rattle.std.proofs.Math.Seq.{take-add}
pub use Rattle.std.proofs.lemmas.Bool.{and_parts, eq-eqb}
pub use Rattle.std.proofs.lemmas.List.{map-append, take-append-drop, take_all, take_more}
pub use Rattle.std.proofs.lemmas.List.Elements.{All-cons, All-nil}
pub use Rattle.std.proofs.lemmas.List.Folds.{list_all-map}
pub use Rattle.std.proofs.lemmas.List.Kept.{AllPairs-cons}
pub use Rattle.std.specs.Global.{Vec}
pub use Rattle.std.specs.List.{AllByRecursion, list_all, list_any}
