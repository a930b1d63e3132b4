-- The names of specifications and of the crates below that most proofs here cite, passed on from one place.
pub use Rattle.act_rules.specs.Report.{one_to}
pub use Rattle.ray_bench_work.specs.Work.{actor_at, cast_in_work, cast_view, is_reached, one_more}
pub use Rattle.std.proofs.Common.{None, length, map, pos, ◌≡◌}
pub use Rattle.std.specs.Prelude.{All, filter}
