use Rattle.std.proofs.Common.{◌≡◌, map}
use Rattle.act_rules.specs.Report.{one_to}
use Rattle.ray_bench_code.specs.Calls.{adder_of}
use Rattle.ray_bench_code.proofs.adder.adders_of.Given as goal

-- the code of each caller so far
abbrev pub invariant-loop-before : goal.invariant-loop-before
invariant-loop-before l = l.adders.items ≡ map (adder_of l.work) (one_to l.before)
