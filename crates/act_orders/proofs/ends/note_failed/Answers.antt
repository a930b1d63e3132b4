use Rattle.act_orders.proofs.Common.{◌≡◌, arith, ◌+◌, ◌≤◌, length, get_or, take, ap, sym, subst, ◌∙◌, Contains, Call, call_of, HasFailed, TakesGood}
use Rattle.act_orders.proofs.Finding.{finds_noted, finds_both, finds_then, finds_none, good_none, good_more, good_all, waits_item}
use Rattle.act_orders.proofs.ends.note_failed.Goals as goal

pub fault_if_failed-requires-clause-taken : goal.fault_if_failed-requires-clause-taken
fault_if_failed-requires-clause-taken c =
    let told = c.args.told.now in let n = c.args.call in let items = c.as_slice-taken-items.result.now in let i = c.loop-taken.taken-index in
    let same : items ≡ (call_of told n).takes = c.as_slice-taken-items.ensures ∙ ap (λ (x : Call). x.takes) c.call.ensures in
    let has : Contains (call_of told n).takes (get_or items i 0) =
    subst (λ ks. Contains ks (get_or items i 0)) same (waits_item items i c.loop-taken-test.true) in
    omega (arith, c.requires.within, ((c.requires.whole.takes n c.requires.within).each (get_or items i 0) has).before)

pub fault_if_failed-requires-clause-takes : goal.fault_if_failed-requires-clause-takes
fault_if_failed-requires-clause-takes c =
    let told = c.args.told.now in let n = c.args.call in let items = c.as_slice-taken-items.result.now in let i = c.loop-taken.taken-index in
    let same : items ≡ (call_of told n).takes = c.as_slice-taken-items.ensures ∙ ap (λ (x : Call). x.takes) c.call.ensures in
    subst (λ ks. Contains ks (get_or items i 0)) same (waits_item items i c.loop-taken-test.true)

pub loop-taken-init : goal.loop-taken-init
loop-taken-init c = finds_none _ _ _ (good_none c.args.told.now c.args.call (call_of c.args.told.now c.args.call).takes)

pub loop-taken-preserved : goal.loop-taken-preserved
loop-taken-preserved c =
    let told = c.args.told.now in let n = c.args.call in let items = c.as_slice-taken-items.result.now in let i = c.loop-taken.taken-index in
    let takes = (call_of told n).takes in let m = get_or items i 0 in
    let same : items ≡ takes = c.as_slice-taken-items.ensures ∙ ap (λ (x : Call). x.takes) c.call.ensures in
    let at : get_or takes i 0 ≡ m = ap (λ ks. get_or ks i 0) (sym same) in
    finds_both told (TakesGood told n (take i takes)) (TakesGood told n (take (i + 1) takes)) (good_more told n takes i m at) c.loop-taken.invariant
    (finds_noted told (HasFailed (call_of told m).outcome → ⊥) c.loop-taken.faults c.fault_if_failed.result c.in_ok-note.ensures.ok c.fault_if_failed.ensures)

pub returns : goal.returns
returns c =
    let told = c.args.told.now in let n = c.args.call in let items = c.as_slice-taken-items.result.now in let i = c.loop-taken.taken-index in
    let takes = (call_of told n).takes in
    let same : items ≡ takes = c.as_slice-taken-items.ensures ∙ ap (λ (x : Call). x.takes) c.call.ensures in
    let far : length takes ≤ i = omega (arith, ap (λ ks. length ks) same) in
    finds_then (TakesGood told n takes)
    (good_all told n takes i far) c.loop-taken.invariant
