use Rattle.act_code_ends.proofs.Common.{subst, All, take_all, All-more, world_view, Played, SaysAt}
use Rattle.act_code_ends.proofs.ends.first_bad.Goals as goal

pub loop-end-preserved : goal.loop-end-preserved
loop-end-preserved g c =
    let is_good = λ (end : Played _). SaysAt (g.H.Check.holds c.args.check.now) (world_view g.K.Actor.state end.world) in
    All-more is_good c.args.ends.now c.loop-end.end-index c.end-item.result c.loop-end-test.true c.loop-end.invariant
    (subst is_good c.end-item.is (c.in_ok-check.ensures.yes c.if-not-branch.false))

pub returns-clause-none : goal.returns-clause-none
returns-clause-none g c =
    subst (All (λ (end : Played _). SaysAt (g.H.Check.holds c.args.check.now) (world_view g.K.Actor.state end.world)))
    (take_all c.loop-end.end-index c.args.ends.now c.loop-end-test.false) c.loop-end.invariant
