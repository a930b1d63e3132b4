use Rattle.example_uses.proofs.Common.{map, take, actor_spec, world_view, IsReachedBy}
use Rattle.example_uses.proofs.front.world_after.Given as goal

-- the world stands after the events so far
abbrev pub invariant-loop-event : goal.invariant-loop-event
invariant-loop-event g l = IsReachedBy (map (actor_spec g.K.Actor.state) l.fn.casts.items) (take l.event-index l.events) (world_view g.K.Actor.state l.world)
