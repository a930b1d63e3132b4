use Rattle.ray_bench_work.proofs.Common.{◌≡◌, length, All, one_more}
use Rattle.ray_bench_work.proofs.prepared.Prepared.make.Given as goal

-- as many as were made, each for a call that adds 1
abbrev pub invariant-loop : goal.invariant-loop
invariant-loop l = (length l.left.items ≡ l.counter) × All (λ args. args ≡ one_more) l.left.items
