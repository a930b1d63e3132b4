use Rattle.act_actor.proofs.Common.{◌≢◌, sym, ◌∙◌, refl}
use Rattle.act_actor.proofs.Pairs.{differ_more, pairs_all}
use Rattle.act_actor.proofs.cast.callers_differ.Goals as goal

pub loop-place-preserved : goal.loop-place-preserved
loop-place-preserved c =
    differ_more (λ n. n) c.args.callers.now c.loop-place-test.true c.index-callers-place.is c.loop-place.invariant
    (sym c.contains.ensures.value ∙ c.if-contains.false)

pub returns : goal.returns
returns c = (λ _. pairs_all (λ one other. one ≢ other) c.args.callers.now c.loop-place-test.false c.loop-place.invariant, λ _. refl)
