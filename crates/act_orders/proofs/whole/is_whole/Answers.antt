use Rattle.act_orders.proofs.Wholes.{whole_from, numbers_of, rising_of}
use Rattle.act_orders.proofs.Common.{◌∙◌, sym, false≢true}
use Rattle.act_orders.proofs.whole.is_whole.Goals as goal

pub returns-then-numbers_fit : goal.returns-then-numbers_fit
returns-then-numbers_fit c =
    let told = c.args.told.now in (
      (λ yes. whole_from told (c.numbers_fit.ensures.0 c.if-numbers_fit.true) (c.all_rise.ensures.0 yes)),
      (λ whole. c.all_rise.ensures.1 (rising_of told whole)),
    )

pub returns-else-numbers_fit : goal.returns-else-numbers_fit
returns-else-numbers_fit c = (
  (λ yes. absurd (false≢true (sym c.if-numbers_fit.false ∙ yes))),
  (λ whole. c.numbers_fit.ensures.1 (numbers_of c.args.told.now whole)),
)
