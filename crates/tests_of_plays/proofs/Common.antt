-- The names of specifications and of the crates below that most proofs here cite, passed on from one place.
pub use Rattle.act_types.specs.KindState.{AccountAt, CounterAt, KindState}
pub use Rattle.std.proofs.Common.{ap, refl, sym, ◌∙◌}
pub use denote.Param.Object.{read_made}
