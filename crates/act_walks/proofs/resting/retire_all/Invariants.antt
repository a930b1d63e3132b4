use Rattle.act_walks.proofs.Common.{world_view, Fits, RestsOn}
use Rattle.act_walks.proofs.resting.retire_all.Given as goal

-- it still rests
abbrev pub invariant-loop : goal.invariant-loop
invariant-loop g l = RestsOn (Fits l.end) (world_view g.K.Actor.state l.fn.world) (world_view g.K.Actor.state l.world) l.fn.events.items l.events.items
