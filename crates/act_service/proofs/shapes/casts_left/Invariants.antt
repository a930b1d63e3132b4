use Rattle.act_service.proofs.Common.{◌≡◌, ◌++◌, map, filter_map, into_iter_items, actor_spec, end_view, cast_left_by}
use Rattle.act_service.proofs.shapes.casts_left.Given as goal

-- what is left so far, and what is left of those that come
abbrev pub invariant-loop-actor : goal.invariant-loop-actor
invariant-loop-actor g l = map (actor_spec g.K.Actor.state) l.left.items
    ++ filter_map (cast_left_by l.shapes) (map (λ (actor : _). end_view g.K.Actor.state actor.ended) (into_iter_items l.actor-iterator))
    ≡ filter_map (cast_left_by l.shapes) (map (λ (actor : _). end_view g.K.Actor.state actor.ended) l.fn.actors.items)
