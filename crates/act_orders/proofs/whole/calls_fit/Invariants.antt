use Rattle.act_orders.proofs.Common.{ℕ, ◌<◌, CallFits}
use Rattle.act_orders.proofs.whole.calls_fit.Given as goal

abbrev pub invariant-loop-place : goal.invariant-loop-place
invariant-loop-place l = (n : ℕ) → n < l.place → CallFits l.told n
