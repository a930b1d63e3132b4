-- The names of specifications and of the crates below that most proofs here cite, passed on from one place.
pub use Rattle.act_console.specs.Parts.{world_summary}
pub use Rattle.act_ends.specs.Kinds.{state_of}
pub use Rattle.act_ends.specs.Rest.{IsResting}
pub use Rattle.act_rules.specs.History.{ActorSpec, History, cast_of, contains, is_dead, is_ended}
pub use Rattle.act_rules.specs.Laws.{history}
pub use Rattle.act_rules.specs.Scripts.{actor_spec_of, callers_of_roles}
pub use Rattle.act_world.specs.View.{WorldView, world_view}
pub use Rattle.std.proofs.Common.{Bool, List, None, Ok, Option, Some, [], ap, arith, false, refl, subst, sym, true, ℕ, ◌++◌, ◌+◌, ◌∙◌, ◌∷◌, ◌≡◌, ◌≤◌}
pub use Rattle.std.specs.Prelude.{is_some, map, take, ◌==◌, ◌||◌}
