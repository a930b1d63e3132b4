use Rattle.act_ends.proofs.Common.{◌≡◌, arith, subst, world_view, IsResting}
use Rattle.act_ends.proofs.lines.retire_all.Goals as goal

pub returns : goal.returns
returns g c casts h is =
    let all : c.loop-before.before ≡ 8 = omega arith in
    subst (λ n. IsResting casts h n (world_view g.K.Actor.state c.loop-before.world)) all (c.loop-before.invariant casts h is)
