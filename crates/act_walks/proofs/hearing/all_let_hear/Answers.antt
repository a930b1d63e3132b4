use Rattle.act_walks.proofs.Common.{◌≡◌, true, false, Some, refl, ap, sym, ◌∙◌, arith, slice_get, slice_get_within, slice_get-get_or, lets_hear}
use Rattle.act_walks.proofs.Deaths.{one_more}
use Rattle.act_walks.proofs.hearing.all_let_hear.Goals as goal

pub loop-place-preserved : goal.loop-place-preserved
loop-place-preserved c = one_more (λ k call. lets_hear c.args.a c.args.owner.now.kept k call) c.args.calls.now c.loop-place.place c.index-calls-place.result
    c.index-calls-place.is (ap (λ k. lets_hear c.args.a c.args.owner.now.kept k c.index-calls-place.result) (sym c.new.ensures) ∙ sym c.lets_hear.ensures ∙
    c.if-not-lets_hear.false) c.loop-place.invariant

pub returns-then-not-lets_hear : goal.returns-then-not-lets_hear
returns-then-not-lets_hear c = λ few. (
  (λ e. cc),
  λ all.
      let at : slice_get c.args.calls.now c.loop-place.place ≡ Some c.index-calls-place.result =
      slice_get-get_or c.args.calls.now c.loop-place.place c.index-calls-place.result c.loop-place-test.true
      ∙ ap (λ x. Some x) (sym c.index-calls-place.is) in
      let bad : true ≡ false = sym (all c.loop-place.place c.index-calls-place.result at)
      ∙ ap (λ k. lets_hear c.args.a c.args.owner.now.kept k c.index-calls-place.result) (sym c.new.ensures)
      ∙ sym c.lets_hear.ensures ∙ c.if-not-lets_hear.true in
      cc,
)

pub returns : goal.returns
returns c = λ few. (
  (λ _ k call at. let within = slice_get_within c.args.calls.now k call at in let test = c.loop-place-test.false in
      c.loop-place.invariant k call (omega (arith, within, test)) at),
  λ all. refl,
)
