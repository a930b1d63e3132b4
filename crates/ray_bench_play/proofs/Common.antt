-- The names of specifications and of the crates below that most proofs here cite, passed on from one place.
pub use Rattle.act_actor.specs.Casts.{actor_spec}
pub use Rattle.act_rules.specs.Report.{one_to}
pub use Rattle.act_rules.specs.declared.event.Event.{Event}
pub use Rattle.act_types.specs.declared.call.Arg.{Arg}
pub use Rattle.act_world.specs.IsReachedBy.{IsGrownBy, IsReachedBy}
pub use Rattle.act_world.specs.View.{WorldView, world_view}
pub use Rattle.ray_bench_work.specs.Work.{one_more, places}
pub use Rattle.ray_bench_play.specs.Plays.{StandsAfter, call_at, event_of, events_in, is_served_in, legs, submission_of, submissions, way_of, ways}
pub use Rattle.ray_bench_play.specs.declared.calls.Call.{Call}
pub use Rattle.ray_bench_play.specs.declared.calls.Leg.TheVariants.{Collect, Deliver, Run, Send}
pub use Rattle.std.proofs.Common.{List, [], add-one, ap, append_assoc, arith, flat_map, map, subst, sym, ℕ, ◌*◌, ◌++◌, ◌+◌, ◌∙◌, ◌∷◌, ◌≡◌}
pub use Rattle.std.proofs.lemmas.List.{append-nil, flat_map_more, map-append}
pub use Rattle.std.specs.List.{list_all}
