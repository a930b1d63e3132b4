use Rattle.ray_bench_play.proofs.Common.{◌≡◌, subst, arith, world_view, StandsAfter, call_at, way_of, ways}
use Rattle.ray_bench_play.proofs.Standing.{stands_still, several_next}
use Rattle.ray_bench_play.proofs.play.follow_all.Goals as goal

pub loop-number-init : goal.loop-number-init
loop-number-init g c = record { after = stands_still (world_view g.K.Actor.state c.args.world.now); grown = omega arith }

pub loop-number-preserved : goal.loop-number-preserved
loop-number-preserved g c = record {
  after =
      let mid = world_view g.K.Actor.state c.loop-number.world in let new = world_view g.K.Actor.state c.follow.new.world in
      several_next (λ number. way_of (call_at c.args.work.now number)) c.loop-number.number
      (world_view g.K.Actor.state c.args.world.now) mid new c.loop-number.invariant.after
      (subst (λ call. StandsAfter (way_of call) mid new) c.call_at.ensures c.in_ok-follow.ensures.after);
  grown = let before = c.loop-number.invariant.grown in let more = c.in_ok-follow.ensures.grown in omega arith;
}

pub returns : goal.returns
returns g c = record {
  after = subst (λ n. StandsAfter (ways c.args.work.now n) (world_view g.K.Actor.state c.args.world.now) (world_view g.K.Actor.state c.loop-number.world))
      ended c.loop-number.invariant.after;
}
  where
    ended : c.loop-number.number ≡ c.args.calls
    ended = let within = c.loop-number.auto.number-end in let out = c.loop-number-test.false in omega arith
