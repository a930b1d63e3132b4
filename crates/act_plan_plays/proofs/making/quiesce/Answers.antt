use Rattle.act_plan_plays.proofs.Common.{◌<◌, length, sym, subst, IsPart}
use Rattle.act_plan_plays.proofs.Moving.{same_trans}
use Rattle.act_plan_plays.proofs.making.quiesce.Goals as goal

pub loop-preserved : goal.loop-preserved
loop-preserved g c = λ casts plans at stands hold.
    let before = c.loop.invariant casts plans at stands hold in
    let within : c.in-Some.place < length c.args.setups.now = rw c.in-Some.is at c.in_ok-place.ensures.within in
    let part : IsPart casts plans c.index-setups-place.result =
    subst (IsPart casts plans) (sym c.index-setups-place.is) (hold.parts c.in-Some.place c.index-setups-place.result within) in
    let next = c.in_ok-go_far.ensures casts plans before.0 before.1 part in (next.0, next.1, same_trans before.2 next.2)
