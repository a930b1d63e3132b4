use Rattle.act_orders.proofs.Common.{arith, ◌+◌, ◌<◌, length, get_or, take, refl, Answered, Happened, Come}
use Rattle.act_orders.proofs.Finding.{finds_noted, finds_both, come_more, come_none, come_all, finds_none, waits_item}
use Rattle.act_orders.proofs.ends.note_open.Goals as goal

pub fault_if_open-requires-clause-within : goal.fault_if_open-requires-clause-within
fault_if_open-requires-clause-within c =
    let i = c.loop-call.call-index in let waits = c.args.waits.now in
    let lt : i < length waits = omega arith in c.requires.within (get_or waits i 0) (waits_item waits i lt)

pub fault_if_open-requires-clause-cause : goal.fault_if_open-requires-clause-cause
fault_if_open-requires-clause-cause c =
    let i = c.loop-call.call-index in let waits = c.args.waits.now in
    let lt : i < length waits = omega arith in c.requires.causes (get_or waits i 0) (waits_item waits i lt)

pub loop-call-init : goal.loop-call-init
loop-call-init c = finds_none _ _ _ (come_none c.args.told.now c.args.waits.now)

pub loop-call-preserved : goal.loop-call-preserved
loop-call-preserved c =
    let told = c.args.told.now in let i = c.loop-call.call-index in let waits = c.args.waits.now in
    let n = get_or waits i 0 in let lt : i < length waits = omega arith in
    finds_both told (Come told (take i waits)) (Come told (take (i + 1) waits)) (come_more told waits i n lt refl) c.loop-call.invariant
    (finds_noted told (Happened told (Answered n)) c.loop-call.faults c.fault_if_open.result c.in_ok-note.ensures.ok c.fault_if_open.ensures)

pub returns : goal.returns
returns c =
    let told = c.args.told.now in let i = c.loop-call.call-index in let waits = c.args.waits.now in
    let inv = c.loop-call.invariant in record { faults = inv.faults; more = inv.more; clean = λ none. come_all told waits i (omega arith) (inv.clean none) }
