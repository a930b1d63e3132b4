use Rattle.ray_bench_play.proofs.Common.{world_view, IsGrownBy, StandsAfter, legs}
use Rattle.ray_bench_play.proofs.play.step_all.Given as goal

-- the world stands after the events so far, and no more places are taken than there were events
abbrev pub invariant-loop-number : goal.invariant-loop-number
invariant-loop-number g l = record {
  after : StandsAfter (legs l.leg l.work l.number) (world_view g.K.Actor.state l.fn.world) (world_view g.K.Actor.state l.world);
  grown : IsGrownBy (l.number) l.fn.world.network l.world.network;
}
