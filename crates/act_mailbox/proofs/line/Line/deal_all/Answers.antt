use Rattle.std.proofs.Common.{ℕ, ◌≡◌, ◌≤◌, List, ◌++◌, take, subst, Contains, get_or, arith}
use Rattle.act_mailbox.proofs.Deals.{fresh_next}
use Rattle.act_mailbox.proofs.line.Line.deal_all.Goals as goal

pub deal-requires-clause-new : goal.deal-requires-clause-new
deal-requires-clause-new g c =
    let x : ℕ = c.number.result in let numbers : List ℕ = c.args.callers.now in
    let is : x ≡ get_or numbers c.loop-caller.caller-index x = grind (arith, c.caller-item.is, c.number.ensures.value) in
    let valid : 1 ≤ x = omega (arith, c.number.ensures.valid.0, c.number.ensures.value) in
    let held : c.loop-caller.taker.putters ≡ c.args.taker.now.putters ++ take c.loop-caller.caller-index numbers =
    λ i. (c.loop-caller.invariant.taker i).putters in
    λ has. fresh_next c.args.taker.now.putters numbers x c.loop-caller-test.true is c.requires.distinct (c.requires.new x valid)
    (subst (λ l. Contains l x) held has)
