use Rattle.act_plan_plays.proofs.Common.{◌≡◌, true, false, ◌∙◌, refl, sym, subst, CallerSetup, IsPart, IsThrough}
use Rattle.act_plan_plays.proofs.Loops.{each_more, each_whole}
use Rattle.act_plan_plays.proofs.Ends.{through_all}
use Rattle.act_plan_plays.proofs.ending.are_through.Goals as goal

pub returns-then-not-is_through : goal.returns-then-not-is_through
returns-then-not-is_through g c = λ casts plans at stands hold.
    let part : IsPart casts plans c.setup-item.result =
    subst (IsPart casts plans) (sym c.setup-item.is) (hold.parts c.loop-setup.setup-index c.setup-item.result c.loop-setup-test.true) in (
      (λ e. cc),
      λ all. let bad : true ≡ false = sym ((c.is_through.ensures casts plans at stands part).1 (all c.setup-item.result.caller))
          ∙ c.if-not-is_through.true in cc,
    )

pub loop-setup-preserved : goal.loop-setup-preserved
loop-setup-preserved g c = λ casts plans at stands. each_more
    (λ (setup : CallerSetup). IsPart casts plans setup → IsThrough plans setup.caller at) c.args.setups.now c.loop-setup-test.true c.setup-item.is
    (λ part. (c.is_through.ensures casts plans at stands part).0 c.if-not-is_through.false) (c.loop-setup.invariant casts plans at stands)

pub returns : goal.returns
returns g c = λ casts plans at stands hold.
    let all = each_whole (λ (setup : CallerSetup). IsPart casts plans setup → IsThrough plans setup.caller at) c.args.setups.now
    c.loop-setup-test.false
    (c.loop-setup.invariant casts plans at stands) in (
      (λ e. through_all casts plans at stands hold (λ k d below. all k d below (hold.parts k d below))),
      λ e. refl,
    )
