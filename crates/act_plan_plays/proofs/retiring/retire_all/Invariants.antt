use Rattle.act_plan_plays.proofs.Common.{ℕ, List, Step, ActorSpec, At, world_view, IsRetiredFrom}
use Rattle.act_plan_plays.proofs.RetiredAll.{AreOver}
use Rattle.act_plan_plays.proofs.retiring.retire_all.Given as goal

-- the actors so far retired
abbrev pub invariant-loop-before : goal.invariant-loop-before
invariant-loop-before g l = (casts : List ActorSpec) (plans : ℕ → List Step) (at : At)
    → IsRetiredFrom casts plans at at (world_view g.K.Actor.state l.fn.world) l.fn.events.items →
    (end : At) × IsRetiredFrom casts plans at end (world_view g.K.Actor.state l.world) l.events.items × AreOver at.history end.history l.before
