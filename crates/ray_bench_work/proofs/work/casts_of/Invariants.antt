use Rattle.ray_bench_work.proofs.Common.{◌≡◌, map, All, None, pos, one_to, cast_in_work, cast_view}
use Rattle.ray_bench_work.proofs.work.casts_of.Given as goal

-- the cast of each actor so far, without a limit and at 0
abbrev pub invariant-loop-before : goal.invariant-loop-before
invariant-loop-before l = (map cast_view l.casts.items ≡ map (cast_in_work l.work) (one_to l.before)) × All (λ cast. cast.pending ≡ None) l.casts.items × All
    (λ cast. cast.kind ≡ pos 0) l.casts.items
