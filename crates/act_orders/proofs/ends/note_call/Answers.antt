use Rattle.act_orders.proofs.Common.{◌≡◌, arith, ap, subst, ◌∙◌, Contains, Call, call_of, Finds, Come}
use Rattle.act_orders.proofs.Finding.{finds_noted, call_holds}
use Rattle.act_orders.proofs.ends.note_call.Goals as goal

pub note_open-requires-clause-within : goal.note_open-requires-clause-within
note_open-requires-clause-within c k has =
    let told = c.args.told.now in let n = c.args.call in
    let same : c.as_slice-waits.result.now ≡ (call_of told n).waits = c.as_slice-waits.ensures ∙ ap (λ (x : Call). x.waits) c.call.ensures in
    omega (arith, c.requires.within, ((c.requires.whole.waits n c.requires.within).each k (subst (λ ks. Contains ks k) same has)).before)

pub returns : goal.returns
returns c =
    let told = c.args.told.now in let n = c.args.call in
    let same : c.as_slice-waits.result.now ≡ (call_of told n).waits = c.as_slice-waits.ensures ∙ ap (λ (x : Call). x.waits) c.call.ensures in
    call_holds told n c.requires.within
    (finds_noted told _ c.args.faults.now c.fault_of_role.result c.in_ok-note.ensures.ok c.fault_of_role.ensures)
    (finds_noted told _ c.note.new.faults c.fault_of_death.result c.in_ok-note-2.ensures.ok c.fault_of_death.ensures)
    (finds_noted told _ c.note-2.new.faults c.fault_of_rest.result c.in_ok-note-3.ensures.ok c.fault_of_rest.ensures)
    (subst (λ ks. Finds told (Come told ks) c.note-3.new.faults c.note_open.new.faults) same c.in_ok-note_open.ensures)
    c.in_ok-note_taken.ensures c.in_ok-note_spoiled.ensures
