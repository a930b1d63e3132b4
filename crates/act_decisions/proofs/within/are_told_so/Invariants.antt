use Rattle.act_decisions.proofs.Common.{◌≡◌, ◌<◌, ℕ, false, [], callers_of, rans_in, is_dead_in, is_retired_in}
use Rattle.act_decisions.proofs.within.are_told_so.Given as goal

-- of the actors so far
abbrev pub invariant-loop-a : goal.invariant-loop-a
invariant-loop-a l = (b : ℕ) → b < l.a → callers_of l.end b ≡ [] → (rans_in l.end b ≡ []) × (is_dead_in l.end b ≡ false) × (is_retired_in l.end b ≡ false)
