use Rattle.act_ends.proofs.Common.{List, ActorSpec, History, world_view, IsResting}
use Rattle.act_ends.proofs.lines.retire_all.Given as goal

-- each actor up to this number is at rest, wherever the world stood
abbrev pub invariant-loop-before : goal.invariant-loop-before
invariant-loop-before g l = (casts : List ActorSpec) (h : History) → IsResting casts h 0 (world_view g.K.Actor.state l.fn.world)
    → IsResting casts h l.before (world_view g.K.Actor.state l.world)
