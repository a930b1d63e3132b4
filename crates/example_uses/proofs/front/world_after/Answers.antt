use Rattle.example_uses.proofs.Common.{◌∷◌, ◌++◌, [], map, take, subst, sym, take_more, actor_spec, world_view, IsReachedBy}
use Rattle.example_uses.proofs.front.world_after.Goals as goal

pub loop-event-preserved : goal.loop-event-preserved
loop-event-preserved g c =
    let casts = map (actor_spec g.K.Actor.state) c.args.casts.items in
    let before = take c.loop-event.event-index c.args.events.now in
    let after = world_view g.K.Actor.state c.step.new.world in
    subst (λ events. IsReachedBy casts events after) (sym (take_more c.args.events.now c.loop-event.event-index c.event-item.result c.loop-event-test.true))
    (subst (λ event. IsReachedBy casts (before ++ event ∷ []) after) c.event-item.is (c.in_ok-step.ensures casts before c.loop-event.invariant))
