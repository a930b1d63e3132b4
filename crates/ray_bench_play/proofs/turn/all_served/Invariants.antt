use Rattle.ray_bench_play.proofs.Common.{◌≡◌, list_all, one_to, is_served_in}
use Rattle.ray_bench_play.proofs.turn.all_served.Given as goal

-- each caller so far
abbrev pub invariant-loop-before : goal.invariant-loop-before
invariant-loop-before g l = l.served ≡ list_all (is_served_in l.world.network l.work.calls) (one_to l.before)
