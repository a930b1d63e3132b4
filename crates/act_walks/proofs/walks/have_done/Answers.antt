use Rattle.act_walks.proofs.Common.{◌≡◌, ◌<◌, ◌≤◌, true, false, length, refl, ap, sym, ◌∙◌, subst, arith, get_or}
use Rattle.act_walks.proofs.Wholly.{have_done_more, have_done_all, not_done}
use Rattle.act_walks.proofs.walks.have_done.Goals as goal

pub loop-number-init : goal.loop-number-init
loop-number-init c = λ n caller below at. absurd (omega (arith, below))

pub loop-number-preserved : goal.loop-number-preserved
loop-number-preserved c = have_done_more c.args.end.now c.args.done.now (subst (λ l. c.loop-number.number < length l) c.deref-caller-items.ensures.value
    c.loop-number-test.true) (c.caller-item.is ∙ ap (λ l. get_or l c.loop-number.number c.caller-item.result) c.deref-caller-items.ensures.value)
    (c.has_done.ensures.0 c.if-not-has_done.false) c.loop-number.invariant

pub returns-then-not-has_done : goal.returns-then-not-has_done
returns-then-not-has_done c = (
  (λ e. cc),
  λ have.
      let bad : true ≡ false = sym (c.has_done.ensures.1 (not_done c.args.end.now c.args.done.now
      (subst (λ l. c.loop-number.number < length l) c.deref-caller-items.ensures.value c.loop-number-test.true)
      (c.caller-item.is ∙ ap (λ l. get_or l c.loop-number.number c.caller-item.result) c.deref-caller-items.ensures.value) have))
      ∙ c.if-not-has_done.true in
      cc,
)

pub returns : goal.returns
returns c = (
  (λ _. have_done_all c.args.end.now c.args.done.now
      (subst (λ l. length l ≤ c.loop-number.number) c.deref-caller-items.ensures.value c.loop-number-test.false) c.loop-number.invariant),
  λ _. refl,
)
