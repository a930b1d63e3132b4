use Rattle.act_orders.proofs.Common.{◌<◌, length, get_or, arith, refl, false≢true, Contains-get_or, slice_get_within, get_or_from_slice_get, place_in}
use Rattle.act_orders.proofs.whole.all_below.Goals as goal

pub returns-then-number-bound : goal.returns-then-number-bound
returns-then-number-bound c =
    let i = c.loop-number.number-index in let xs = c.args.numbers.now in let lt : i < length xs = omega arith in (
      (λ no. absurd (false≢true no)),
      (λ all. absurd (let h = all (get_or xs i 0) (Contains-get_or xs i 0 lt) in omega (arith, h, c.if-number-bound.true))),
    )

pub returns : goal.returns
returns c =
    let xs = c.args.numbers.now in (
      (λ _ k has. let f = place_in xs k has in let w = slice_get_within xs f.0 k f.1 in let h = c.loop-number.invariant f.0 (omega (arith, w)) in
          omega (arith, h, get_or_from_slice_get xs f.0 k 0 f.1)),
      (λ _. refl),
    )
