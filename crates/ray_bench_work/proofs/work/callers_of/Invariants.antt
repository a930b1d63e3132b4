use Rattle.ray_bench_work.proofs.Common.{◌≡◌, filter, one_to, actor_at, is_reached}
use Rattle.ray_bench_work.proofs.work.callers_of.Given as goal

-- each caller so far that calls the actor
abbrev pub invariant-loop-before : goal.invariant-loop-before
invariant-loop-before l = l.callers.items ≡ filter (λ caller. is_reached l.work.reach (actor_at l.work caller 0) l.actor) (one_to l.before)
