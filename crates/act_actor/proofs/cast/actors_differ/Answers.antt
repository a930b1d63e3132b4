use Rattle.act_actor.proofs.Common.{◌≢◌, true≢false, sym, ◌∙◌, refl, Cast}
use Rattle.act_actor.proofs.Pairs.{differ_more, differ_not, pairs_all}
use Rattle.act_actor.proofs.cast.actors_differ.Goals as goal

pub returns-then-names : goal.returns-then-names
returns-then-names g c = (
  λ same. absurd (true≢false (sym same)),
  λ differ. absurd (differ_not (λ (cast : Cast g.row.K.Denot). cast.actor) c.args.casts.now c.loop-place-test.true
      c.index-casts-place.is (sym c.names.ensures ∙ c.if-names.true) differ),
)

pub loop-place-preserved : goal.loop-place-preserved
loop-place-preserved g c =
    differ_more (λ (cast : Cast g.row.K.Denot). cast.actor) c.args.casts.now c.loop-place-test.true
    c.index-casts-place.is c.loop-place.invariant (sym c.names.ensures ∙ c.if-names.false)

pub returns : goal.returns
returns g c =
    (λ _. pairs_all (λ (one other : Cast g.row.K.Denot). one.actor ≢ other.actor) c.args.casts.now c.loop-place-test.false c.loop-place.invariant, λ _. refl)
