use Rattle.act_orders.proofs.Common.{ℕ, ◌<◌, Finds, CallHolds}
use Rattle.act_orders.proofs.ends.note_calls.Given as goal

abbrev pub invariant-loop-call : goal.invariant-loop-call
invariant-loop-call l = Finds l.told ((n : ℕ) → n < l.call → CallHolds l.told n) l.initial.faults l.faults
