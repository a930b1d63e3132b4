use Rattle.act_replay.proofs.Common.{map, history, Finished, end_view, IsEndIn}
use Rattle.act_replay.proofs.Each.{over_map}
use Rattle.act_replay.proofs.Playing.{not_accepted, not_callers, play_is}
use Rattle.act_replay.proofs.compared.ends_so.Goals as goal

pub returns-then-not-accepted : goal.returns-then-not-accepted
returns-then-not-accepted g c = λ casts opened. not_accepted casts c.args.events.now c.args.owners.now (map
    (λ (actor : Finished _ _). end_view g.K.Actor.state actor.ended) c.args.actors.now) (c.in_ok-accepted.ensures.accepted casts opened) c.if-not-accepted.true

pub returns-then-not-has_owners : goal.returns-then-not-has_owners
returns-then-not-has_owners g c = λ casts opened. not_callers casts c.args.events.now c.args.owners.now (map (λ (actor : Finished _ _). end_view g.K.Actor.state
    actor.ended) c.args.actors.now) (c.has_owners.ensures casts c.args.events.now (c.in_ok-accepted.ensures.reached casts opened)) c.if-not-has_owners.true

pub returns : goal.returns
returns g c = λ casts opened.
    let reached = c.in_ok-accepted.ensures.reached casts opened in
    play_is casts c.args.events.now c.args.owners.now (map (λ (actor : Finished _ _). end_view g.K.Actor.state actor.ended) c.args.actors.now) c.has_ends.result
    (c.in_ok-accepted.ensures.accepted casts opened)
    (c.has_owners.ensures casts c.args.events.now reached)
    (over_map (IsEndIn (history casts c.args.events.now)) (λ (actor : Finished _ _). end_view g.K.Actor.state actor.ended) c.args.actors.now c.has_ends.result
    (c.has_ends.ensures casts c.args.events.now reached))
    c.if-not-accepted.false c.if-not-has_owners.false
