use Rattle.act_replay.proofs.Common.{List, take, All, Event, ActorSpec, history, IsReachedBy, world_view, IsOwnerIn}
use Rattle.act_replay.proofs.compared.has_owners.Given as goal

-- the world has the callers so far
abbrev pub invariant-loop-owner : goal.invariant-loop-owner
invariant-loop-owner g l = (casts : List ActorSpec) (events : List Event) → IsReachedBy casts events (world_view g.J.Actor.state l.world)
    → All (IsOwnerIn (history casts events)) (take l.owner-index l.owners)
