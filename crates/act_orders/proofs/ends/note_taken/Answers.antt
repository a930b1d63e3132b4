use Rattle.act_orders.proofs.Common.{◌≡◌, arith, ap, subst, ◌∙◌, Contains, Call, Ran, call_of, Happened, Come}
use Rattle.act_orders.proofs.Finding.{finds_then}
use Rattle.act_orders.proofs.ends.note_taken.Goals as goal

pub note_open-requires-clause-within : goal.note_open-requires-clause-within
note_open-requires-clause-within c k has =
    let told = c.args.told.now in let n = c.args.call in
    let same : c.as_slice-takes.result.now ≡ (call_of told n).takes = c.as_slice-takes.ensures ∙ ap (λ (x : Call). x.takes) c.call.ensures in
    omega (arith, c.requires.within, ((c.requires.whole.takes n c.requires.within).each k (subst (λ ks. Contains ks k) same has)).before)

pub returns-in_ok-note_open-in-Some : goal.returns-in_ok-note_open-in-Some
returns-in_ok-note_open-in-Some c =
    let told = c.args.told.now in let n = c.args.call in
    let same : c.as_slice-takes.result.now ≡ (call_of told n).takes = c.as_slice-takes.ensures ∙ ap (λ (x : Call). x.takes) c.call.ensures in
    finds_then (Happened told (Ran n) → Come told (call_of told n).takes) (λ come _. subst (Come told) same come) c.in_ok-note_open-in-Some.ensures
