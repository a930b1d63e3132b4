use Rattle.act_told.proofs.Common.{◌≡◌, map, take, end_view, end_id, Finished}
use Rattle.act_told.proofs.actors.numbers_of.Given as goal

-- those so far are told
abbrev pub invariant-loop-actor : goal.invariant-loop-actor
invariant-loop-actor g l = l.numbers.items ≡ map (λ (actor : Finished _ _). end_id (end_view g.K.Actor.state actor.ended)) (take l.actor-index l.actors)
