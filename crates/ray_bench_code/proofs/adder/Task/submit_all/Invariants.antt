use Rattle.std.proofs.Common.{◌≡◌, ◌++◌}
use Rattle.ray_bench_code.specs.Calls.{calls_of_code}
use Rattle.ray_bench_code.proofs.adder.Task.submit_all.Given as goal

-- the calls so far
abbrev pub invariant-loop-place : goal.invariant-loop-place
invariant-loop-place g l = (g.S.Session.seen l.session).calls ≡ (g.S.Session.seen l.fn.session).calls ++ calls_of_code l.self.work l.self.me l.place
