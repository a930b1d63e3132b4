use Rattle.ray_bench_play.proofs.Common.{◌*◌, world_view, IsGrownBy, StandsAfter, ways}
use Rattle.ray_bench_play.proofs.play.follow_all.Given as goal

-- the world stands after the events so far, and no more places are taken than there were events
abbrev pub invariant-loop-number : goal.invariant-loop-number
invariant-loop-number g l = record {
  after : StandsAfter (ways l.work l.number) (world_view g.K.Actor.state l.fn.world) (world_view g.K.Actor.state l.world);
  grown : IsGrownBy (5 * l.number) l.fn.world.network l.world.network;
}
