use Rattle.ray_bench_play.proofs.Common.{◌≡◌, ◌∷◌, [], subst, arith, world_view, StandsAfter, call_at, event_of, legs}
use Rattle.ray_bench_play.proofs.Standing.{stands_still, each_next}
use Rattle.ray_bench_play.proofs.play.step_all.Goals as goal

pub loop-number-init : goal.loop-number-init
loop-number-init g c = record { after = stands_still (world_view g.K.Actor.state c.args.world.now); grown = omega arith }

pub loop-number-preserved : goal.loop-number-preserved
loop-number-preserved g c = record {
  after =
      let mid = world_view g.K.Actor.state c.loop-number.world in let new = world_view g.K.Actor.state c.step.new.world in
      each_next (λ number. event_of c.args.leg (call_at c.args.work.now number)) c.loop-number.number
      (world_view g.K.Actor.state c.args.world.now) mid new c.loop-number.invariant.after
      (subst (λ call. StandsAfter (event_of c.args.leg call ∷ []) mid new) c.call_at.ensures c.in_ok-step.ensures.after);
  grown = let before = c.loop-number.invariant.grown in let more = c.in_ok-step.ensures.grown in omega arith;
}

pub returns-clause-after : goal.returns-clause-after
returns-clause-after g c = subst (λ n. StandsAfter (legs c.args.leg c.args.work.now n) (world_view g.K.Actor.state c.args.world.now)
    (world_view g.K.Actor.state c.loop-number.world)) ended c.loop-number.invariant.after
  where
    ended : c.loop-number.number ≡ c.args.calls
    ended = let within = c.loop-number.auto.number-end in let out = c.loop-number-test.false in omega arith
