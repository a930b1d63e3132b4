use Rattle.act_replay.proofs.Common.{arith, history, IsOwnerIn}
use Rattle.act_compare.proofs.Each.{each_more, not_each, each}
use Rattle.act_replay.proofs.compared.has_owners.Goals as goal

pub loop-owner-preserved : goal.loop-owner-preserved
loop-owner-preserved g c = λ casts events reached. each_more (IsOwnerIn (history casts events)) c.args.owners.now c.loop-owner-test.true c.owner-item.is
    (c.has_owner.ensures casts events reached) c.if-not-has_owner.false (c.loop-owner.invariant casts events reached)

pub returns-then-not-has_owner : goal.returns-then-not-has_owner
returns-then-not-has_owner g c = λ casts events reached. not_each (IsOwnerIn (history casts events)) c.args.owners.now c.loop-owner-test.true c.owner-item.is
    (c.has_owner.ensures casts events reached) c.if-not-has_owner.true

pub returns : goal.returns
returns g c = λ casts events reached. each (IsOwnerIn (history casts events)) c.args.owners.now c.loop-owner.owner-index (omega arith)
    (c.loop-owner.invariant casts events reached)
