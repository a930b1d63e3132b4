-- The names of specifications and of the crates below that most proofs here cite, passed on from one place.
pub use Rattle.act_early.specs.Told.{told_at_rest}
pub use Rattle.act_rules.specs.Laws.{history}
pub use Rattle.ray_explore.specs.All.{TellsEach}
pub use Rattle.ray_explore.specs.Telling.{HasToldMore, HasToldSome}
pub use Rattle.ray_explore.specs.Told.{TellsCount, TellsEnd, TellsEnds, TellsMore, TellsNew}
pub use Rattle.std.proofs.Common.{Bool, Contains, Err, List, None, Ok, Option, Result, [], ap, arith, bytes_eq, cond, false, inl, inr, length, length-append}
pub use Rattle.std.proofs.Common.{map, refl, string_bytes, subst, sym, true, ℕ, ◌++◌, ◌+◌, ◌<◌, ◌∙◌, ◌∷◌, ◌≡◌, ◌≤◌}
pub use Rattle.std.specs.BTreeSet.{BTreeSet, contains_text}
pub use Rattle.std.specs.Global.{Global}
pub use Rattle.std.specs.Prelude.{IfOk, String}
