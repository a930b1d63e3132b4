use Rattle.std.proofs.Common.{◌≡◌}
use Rattle.ray_bench_code.proofs.adder.Task.take_all.Given as goal

-- no call is submitted
abbrev pub invariant-loop-place : goal.invariant-loop-place
invariant-loop-place g l = (g.S.Session.seen l.session).calls ≡ (g.S.Session.seen l.fn.session).calls
