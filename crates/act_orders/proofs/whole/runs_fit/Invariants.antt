use Rattle.act_orders.proofs.Common.{ℕ, ◌<◌, RunFits}
use Rattle.act_orders.proofs.whole.runs_fit.Given as goal

abbrev pub invariant-loop-place : goal.invariant-loop-place
invariant-loop-place l = (i : ℕ) → i < l.place → RunFits l.told i
