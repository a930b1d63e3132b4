use Rattle.act_plan_plays.proofs.Common.{arith}
use Rattle.act_plan_plays.proofs.RetiredAll.{over_more, over_all}
use Rattle.act_plan_plays.proofs.retiring.retire_all.Goals as goal

pub loop-before-init : goal.loop-before-init
loop-before-init g c = λ casts plans at r. (at, r, λ a from upto some. absurd (omega arith))

pub loop-before-preserved : goal.loop-before-preserved
loop-before-preserved g c = λ casts plans at r.
    let before = c.loop-before.invariant casts plans at r in
    let goes = c.in_ok-retire_one.ensures casts plans at before.0 before.1 in (
      goes.next,
      goes.is,
      over_more at c.loop-before.before before.2 goes,
    )

pub returns : goal.returns
returns g c = λ casts plans at r.
    let all = c.loop-before.invariant casts plans at r in
    let test = c.loop-before-test.false in (
      all.0,
      all.1,
      over_all casts plans at all.0 c.loop-before.before all.1 (omega arith) all.2,
    )
