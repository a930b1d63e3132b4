use Rattle.ray_bench_play.proofs.Common.{◌≡◌, ◌∷◌, [], subst, arith, world_view, one_more, StandsAfter, call_at, submission_of, submissions}
use Rattle.ray_bench_play.proofs.Standing.{stands_still, each_next}
use Rattle.ray_bench_play.proofs.play.submit_all.Goals as goal

pub loop-number-init : goal.loop-number-init
loop-number-init g c = record { after = stands_still (world_view g.K.Actor.state c.args.world.now); grown = omega arith }

pub loop-number-preserved : goal.loop-number-preserved
loop-number-preserved g c = record {
  after =
      let mid = world_view g.K.Actor.state c.loop-number.world in let new = world_view g.K.Actor.state c.submit.new.world in
      each_next (λ number. submission_of (call_at c.args.work.now number) one_more) c.loop-number.number
      (world_view g.K.Actor.state c.args.world.now) mid new c.loop-number.invariant.after
      (subst (λ call. StandsAfter (submission_of call one_more ∷ []) mid new) c.call_at.ensures
      (subst (λ args. StandsAfter (submission_of c.call_at.result args ∷ []) mid new) c.in_ok-take.ensures c.in_ok-submit.ensures.after));
  grown = let before = c.loop-number.invariant.grown in let more = c.in_ok-submit.ensures.grown in omega arith;
}

pub returns-clause-after : goal.returns-clause-after
returns-clause-after g c = subst (λ n. StandsAfter (submissions c.args.work.now n) (world_view g.K.Actor.state c.args.world.now)
    (world_view g.K.Actor.state c.loop-number.world)) ended c.loop-number.invariant.after
  where
    ended : c.loop-number.number ≡ c.args.calls
    ended = let within = c.loop-number.auto.number-end in let out = c.loop-number-test.false in omega arith
