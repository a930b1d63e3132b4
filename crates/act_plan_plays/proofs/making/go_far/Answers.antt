use Rattle.act_plan_plays.proofs.Moving.{same_here, same_trans}
use Rattle.act_plan_plays.proofs.making.go_far.Goals as goal

pub loop-init : goal.loop-init
loop-init g c = λ casts plans at stands part. (at, stands, same_here at.history)

pub loop-preserved : goal.loop-preserved
loop-preserved g c = λ casts plans at stands part.
    let before = c.loop.invariant casts plans at stands part in let next = c.in_ok-make.ensures casts plans before.0 before.1 part in
    (next.0, next.1, same_trans before.2 next.2)
