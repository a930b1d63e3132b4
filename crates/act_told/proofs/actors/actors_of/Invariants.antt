use Rattle.act_told.proofs.Common.{◌≡◌, map, take, end_view, Finished, actor_told}
use Rattle.act_told.proofs.actors.actors_of.Given as goal

-- those so far are told
abbrev pub invariant-loop-actor : goal.invariant-loop-actor
invariant-loop-actor g l = l.told ≡ map (actor_told l.owners)
    (map (λ (actor : Finished _ _). end_view g.K.Actor.state actor.ended) (take l.actor-index l.actors))
