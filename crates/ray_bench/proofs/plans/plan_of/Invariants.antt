use Rattle.std.proofs.Common.{◌≡◌}
use Rattle.std.specs.Prelude.{flat_map}
use Rattle.ray_bench_work.specs.Work.{places}
use Rattle.ray_bench.specs.Plans.{steps_at}
use Rattle.ray_bench.proofs.plans.plan_of.Given as goal

-- what is done at each place so far
abbrev pub invariant-loop-place : goal.invariant-loop-place
invariant-loop-place l = l.plan.items ≡ flat_map (steps_at l.work l.caller) (places l.place)
