use Rattle.act_orders.proofs.Common.{ℕ, ◌<◌, ◌≤◌, length, arith, CallHolds, CallsHold}
use Rattle.act_orders.proofs.Finding.{calls_more, finds_both}
use Rattle.act_orders.proofs.ends.note_calls.Goals as goal

pub loop-call-preserved : goal.loop-call-preserved
loop-call-preserved c = calls_more c.loop-call.invariant c.in_ok-note_call.ensures

pub returns : goal.returns
returns c =
    let told = c.args.told.now in let n = c.loop-call.call in let far : length told.calls ≤ n = omega arith in
    finds_both told ((k : ℕ) → k < n → CallHolds told k) (CallsHold told) (λ calls last. ((λ k lt. calls k (omega (arith, lt, far))), last))
    c.loop-call.invariant c.in_ok-note_last.ensures
