-- The names of specifications and of the crates below that most proofs here cite, passed on from one place.
pub use Rattle.act_actor.specs.Cast.{ActorsDiffer, CallersDiffer}
pub use Rattle.act_actor.specs.declared.cast.Cast.{Cast}
pub use Rattle.act_rules.specs.RunList.{after_item, answer_at, state_after, values_of}
pub use Rattle.act_types.specs.KindState.{KindState}
pub use Rattle.act_types.specs.declared.call.Settled.TheVariants.{Bad, Good}
pub use Rattle.std.proofs.Common.{AllPairs, Bool, Err, List, Ok, Some, [], ap, arith, drop, eq-eqb, false, filter, get_or, length, map, refl, suc, sym, take}
pub use Rattle.std.proofs.Common.{true, true≢false, ℕ, ◌++◌, ◌+◌, ◌<◌, ◌==◌, ◌∙◌, ◌∷◌, ◌≡◌, ◌≢◌, ◌≤◌}
pub use Rattle.std.proofs.lemmas.List.{get_or-take, get_or_default, take_all, take_more}
