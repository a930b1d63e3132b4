-- The names of specifications and of the crates below that most proofs here cite, passed on from one place.
pub use Rattle.act_actor.specs.Casts.{actor_spec, limits_that_name}
pub use Rattle.act_actor.specs.declared.cast.Cast.{Cast}
pub use Rattle.act_code_ends.specs.Ends.{IsEnd, IsLeft, IsThrough, SaysAt, opened_of}
pub use Rattle.act_code_ends.specs.FoundEnds.{AreEnds}
pub use Rattle.act_code_ends.specs.Rehearsals.{HasEnded, OnlyTakes}
pub use Rattle.act_code_ends.specs.declared.certified.Played.{Played}
pub use Rattle.act_compare.specs.Same.{AreSame}
pub use Rattle.act_drive.proofs.CodeSteps.{hears_trans, later_trans}
pub use Rattle.act_drive.proofs.Drivers.{notice_keeps}
pub use Rattle.act_drive.specs.Driven.{KeptOn}
pub use Rattle.act_drive.specs.Sessions.{IsLater, SessionView, Submits, session_view}
pub use Rattle.act_handles.proofs.Lookups.{copies-with_number}
pub use Rattle.act_handles.specs.Handles.{copies_in}
pub use Rattle.act_lists.proofs.Lists.{filter_mapped}
pub use Rattle.act_owner.proofs.Life.{step}
pub use Rattle.act_owner.specs.Owner.{OwnerView, after_collect, opened_with, with_submission}
pub use Rattle.act_rules.specs.Actions.{Noticed, Submitted}
pub use Rattle.act_rules.specs.History.{ActorSpec, History, calls_of, contains, kept_of, opening}
pub use Rattle.act_rules.specs.Laws.{history}
pub use Rattle.act_rules.specs.Rules.{outcomes}
pub use Rattle.act_rules.specs.RunList.{Answer}
pub use Rattle.act_rules.specs.Submissions.{kept_at}
pub use Rattle.act_rules.specs.declared.event.Event.{Event}
pub use Rattle.act_rules.specs.declared.script.Step.{Step}
pub use Rattle.act_types.specs.KindState.{KindState}
pub use Rattle.act_types.specs.declared.call.Arg.{Arg}
pub use Rattle.act_types.specs.declared.call.Method.{Method}
pub use Rattle.act_types.specs.declared.call.Notice.{Notice}
pub use Rattle.act_world.proofs.OpenedOwners.{actors_differ, limits_fit}
pub use Rattle.act_world.specs.IsReachedBy.{IsReachedBy}
pub use Rattle.act_world.specs.Refines.{IsOwnerAt}
pub use Rattle.act_world.specs.View.{world_view}
pub use Rattle.std.proofs.Common.{All, AllPairs, IfSome, IsOk, List, None, Option, Some, [], ap, arith, filter, is_some, length, map, option_to_list, refl}
pub use Rattle.std.proofs.Common.{subst, suc, sym, take, true, zero, ℕ, ◌++◌, ◌<◌, ◌∙◌, ◌∷◌, ◌≡◌, ◌≢◌, ◌≤◌}
pub use Rattle.std.proofs.lemmas.List.{take_all}
pub use Rattle.std.proofs.lemmas.List.Elements.{All-append, All-cons, All-more, All-nil}
pub use Rattle.std.proofs.lemmas.Simd.{map-map}
pub use Rattle.std.specs.List.{list_all}
