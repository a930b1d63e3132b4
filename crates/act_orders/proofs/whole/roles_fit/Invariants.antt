use Rattle.act_orders.proofs.Common.{ℕ, ◌<◌, RoleFits}
use Rattle.act_orders.proofs.whole.roles_fit.Given as goal

abbrev pub invariant-loop-place : goal.invariant-loop-place
invariant-loop-place l = (a : ℕ) → a < l.place → RoleFits l.told a
