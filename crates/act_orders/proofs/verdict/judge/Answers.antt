use Rattle.act_orders.proofs.Common.{◌≡◌, ◌+◌, [], ◌∷◌, ◌++◌, length, arith, sym, subst, ap, ◌∙◌, length-append, All-push, All, Circle, OrdersNodes, graph_of}
use Rattle.act_orders.proofs.Common.{IsFault, IsCircle, TellsCircle}
use Rattle.act_orders.proofs.Judging.{in_order}
use Rattle.act_orders.proofs.verdict.judge.Goals as goal

pub returns-then-is_empty-clause-order : goal.returns-then-is_empty-clause-order
returns-then-is_empty-clause-order c =
    let told = c.args.told.now in let places = c.in_ok-places.places.items in
    let none : c.note_calls.new.faults ≡ [] = c.is_empty.ensures.0 c.if-is_empty.true in
    let empty : length c.note_calls.new.faults ≡ 0 = ap length none in let ends = c.in_ok-note_calls.ensures in
    let turn = c.in_ok-places.ensures.runs (let m = ends.more in omega (arith, m, empty)) in
    in_order told places c.in-Ok.order.items c.requires c.in_ok-places.ensures.places turn (ends.clean empty)
    (subst (λ ps. OrdersNodes (graph_of told ps) c.in-Ok.order.items) c.deref-2.ensures.value c.in-Ok.ensures.order)

pub returns-in_ok-note-in-Err-Circle-clause-faults : goal.returns-in_ok-note-in-Err-Circle-clause-faults
returns-in_ok-note-in-Err-Circle-clause-faults c =
    let told = c.args.told.now in
    let round : IsCircle told c.in-Err-Circle.circle =
    subst (TellsCircle told) c.in-Err-Circle.field-0-is c.in-Err-Circle.ensures.circle in
    let before = c.in_ok-note_calls.ensures.faults c.in_ok-places.ensures.faults in
    let old = c.note_calls.new.faults in
    let e : c.note.new.faults ≡ old ++ Circle c.in-Err-Circle.circle ∷ [] = c.in_ok-note-in-Err-Circle.ensures.ok in
    let l : length c.note.new.faults ≡ length old + length (Circle c.in-Err-Circle.circle ∷ []) =
    ap length e ∙ length-append old (Circle c.in-Err-Circle.circle ∷ []) in
    (omega (arith, l), subst (All (IsFault told)) (sym e) (All-push (IsFault told) old (Circle c.in-Err-Circle.circle) before round))
