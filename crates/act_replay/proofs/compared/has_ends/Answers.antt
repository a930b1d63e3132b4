use Rattle.act_replay.proofs.Common.{arith, history, Finished, end_view, IsEndIn}
use Rattle.act_compare.proofs.Each.{each_more, not_each, each}
use Rattle.act_replay.proofs.compared.has_ends.Goals as goal

pub loop-actor-preserved : goal.loop-actor-preserved
loop-actor-preserved g c =
    λ casts events reached. each_more (λ (actor : Finished _ _). IsEndIn (history casts events) (end_view g.K.Actor.state actor.ended)) c.args.actors.now
    c.loop-actor-test.true c.actor-item.is (c.has_end.ensures casts events reached) c.if-not-has_end.false (c.loop-actor.invariant casts events reached)

pub returns-then-not-has_end : goal.returns-then-not-has_end
returns-then-not-has_end g c = λ casts events reached. not_each (λ (actor : Finished _ _). IsEndIn (history casts events) (end_view g.K.Actor.state
    actor.ended)) c.args.actors.now c.loop-actor-test.true c.actor-item.is (c.has_end.ensures casts events reached) c.if-not-has_end.true

pub returns : goal.returns
returns g c = λ casts events reached. each (λ (actor : Finished _ _). IsEndIn (history casts events) (end_view g.K.Actor.state actor.ended)) c.args.actors.now
    c.loop-actor.actor-index (omega arith) (c.loop-actor.invariant casts events reached)
