use Rattle.std.proofs.Common.{◌≡◌, map}
use Rattle.act_rules.specs.Report.{one_to}
use Rattle.act_executor.specs.Runs.{plan_view}
use Rattle.ray_bench.specs.Plans.{bench_part}
use Rattle.ray_bench.proofs.plans.plans_of.Given as goal

-- the part of each caller so far
abbrev pub invariant-loop-before : goal.invariant-loop-before
invariant-loop-before l = map plan_view l.plans.items ≡ map (bench_part l.work) (one_to l.before)
