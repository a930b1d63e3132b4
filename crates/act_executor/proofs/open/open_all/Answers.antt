use Rattle.act_executor.proofs.Common.{rules, ◌≡◌, ◌<◌, ◌+◌, ◌++◌, [], ◌∷◌, length, take, ap, sym, ◌∙◌, subst, arith, length-take-le, take_all, AreMade}
use Rattle.act_executor.proofs.Common.{take_more, OpenedLines}
use Rattle.act_executor.proofs.OpenLines.Gathered.{hands_long}
use Rattle.act_executor.proofs.OpenLines.Made.{one_made}
use Rattle.act_executor.proofs.open.open_all.Goals as goal

pub loop-place-init : goal.loop-place-init
loop-place-init g c = record { long = search rules; lines = search rules; ends = search rules; hands = search (rules, c.in_ok-hands.ensures) }

pub deal-requires-clause-long : goal.deal-requires-clause-long
deal-requires-clause-long g c = hands_long g.L.Pass.Numbered.number c.args.numbers.now _ c.loop-place.opened.hands.items c.loop-place.invariant.hands

pub loop-place-preserved : goal.loop-place-preserved
loop-place-preserved g c =
    let line = g.L.Opens in let given = c.args.given.now in let place = c.loop-place.place in let one = c.index-given-place.result in
    let below : place < length given = omega (arith, c.loop-place-test.true) in
    let made = c.in_ok-line.ensures in
    let now : OpenedLines _ _ _ = record { lines = c.push.new.self; ends = c.push-in-loop-place.new.self; hands = c.deal.new.hands } in
    let more : take place given ++ one ∷ [] ≡ take (place + 1) given =
    ap (λ x. take place given ++ x ∷ []) c.index-given-place.is ∙ sym (take_more given place one below) in
    subst (λ l. AreMade line.id line.line line.end line.pass g.L.Pass.Numbered.number line.names l c.args.numbers.now now) more
    (one_made line.id line.line line.end line.pass line.names now one place c.loop-place.invariant
    (length-take-le place given (omega arith)) made.line made.end made.passes c.in_ok-push.ensures.items c.in_ok-push-2.ensures.items c.in_ok-deal.ensures)

pub returns : goal.returns
returns g c =
    let line = g.L.Opens in
    subst (λ l. AreMade line.id line.line line.end line.pass g.L.Pass.Numbered.number line.names l c.args.numbers.now c.loop-place.opened)
    (take_all c.loop-place.place c.args.given.now (omega arith)) c.loop-place.invariant
