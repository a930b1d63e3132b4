use Rattle.act_orders.proofs.Common.{arith, ◌+◌, ◌≡◌, ◌<◌, length, get_or, take, ap, sym, subst, Contains, Answered, Happened, Come}
use Rattle.act_orders.proofs.Finding.{finds_noted, finds_both, come_more, come_none, come_all, finds_none, waits_item}
use Rattle.act_orders.proofs.ends.note_last.Goals as goal

pub fault_if_awaited-requires-clause-within : goal.fault_if_awaited-requires-clause-within
fault_if_awaited-requires-clause-within c =
    let i = c.loop-call.call-index in let waits = c.as_slice-call-items.result.now in
    let lt : i < length waits = omega arith in
    let has : Contains c.args.told.now.waits (get_or waits i 0) =
    subst (λ ws. Contains ws (get_or waits i 0)) c.as_slice-call-items.ensures (waits_item waits i lt) in
    c.requires.whole.last_waits (get_or waits i 0) has

pub loop-call-init : goal.loop-call-init
loop-call-init c = finds_none _ _ _ (come_none c.args.told.now c.args.told.now.waits)

pub loop-call-preserved : goal.loop-call-preserved
loop-call-preserved c =
    let told = c.args.told.now in let i = c.loop-call.call-index in let items = c.as_slice-call-items.result.now in
    let waits = told.waits in let n = get_or items i 0 in
    let is : get_or waits i 0 ≡ n = ap (λ ws. get_or ws i 0) (sym c.as_slice-call-items.ensures) in
    let len : length items ≡ length waits = ap length c.as_slice-call-items.ensures in
    let lt : i < length waits = omega arith in
    finds_both told (Come told (take i waits)) (Come told (take (i + 1) waits)) (come_more told waits i n lt is) c.loop-call.invariant
    (finds_noted told (Happened told (Answered n)) c.loop-call.faults c.fault_if_awaited.result c.in_ok-note.ensures.ok c.fault_if_awaited.ensures)

pub returns : goal.returns
returns c =
    let told = c.args.told.now in let i = c.loop-call.call-index in let waits = told.waits in
    let len : length c.as_slice-call-items.result.now ≡ length waits = ap length c.as_slice-call-items.ensures in
    let inv = c.loop-call.invariant in record { faults = inv.faults; more = inv.more; clean = λ none. come_all told waits i (omega arith) (inv.clean none) }
