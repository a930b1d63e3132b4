use Rattle.act_replay.proofs.Common.{List, take, All, Event, ActorSpec, history, Finished, end_view, IsReachedBy, world_view, IsEndIn}
use Rattle.act_replay.proofs.compared.has_ends.Given as goal

-- the world has the actors so far
abbrev pub invariant-loop-actor : goal.invariant-loop-actor
invariant-loop-actor g l = (casts : List ActorSpec) (events : List Event) → IsReachedBy casts events (world_view g.J.Actor.state l.world) →
    All (λ (actor : Finished _ _). IsEndIn (history casts events) (end_view g.K.Actor.state actor.ended)) (take l.actor-index l.actors)
