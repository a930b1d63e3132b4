use Rattle.act_orders.proofs.Common.{arith, sym, subst, Contains}
use Rattle.act_orders.proofs.whole.count_fits.Goals as goal

pub returns-then-count-lt-MANY : goal.returns-then-count-lt-MANY
returns-then-count-lt-MANY c =
    let told = c.args.told.now in (
      (λ yes. record {
        few = omega (arith, c.if-count-lt-MANY.true, c.len-count.ensures);
        waits = λ k has. let lt = c.all_below.ensures.0 yes k (subst (λ ks. Contains ks k) (sym c.as_slice.ensures) has) in
            omega (arith, lt, c.len-count.ensures);
      }),
      (λ fit. c.all_below.ensures.1 (λ k has.
          let lt = fit.waits k (subst (λ ks. Contains ks k) c.as_slice.ensures has) in omega (arith, lt, c.len-count.ensures))),
    )
