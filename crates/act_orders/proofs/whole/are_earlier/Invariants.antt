use Rattle.act_orders.proofs.Common.{ℕ, ◌<◌, get_or, IsEarlier}
use Rattle.act_orders.proofs.whole.are_earlier.Given as goal

abbrev pub invariant-loop-call : goal.invariant-loop-call
invariant-loop-call l = (k : ℕ) → k < l.call-index → IsEarlier l.told l.place (get_or l.calls k 0)
