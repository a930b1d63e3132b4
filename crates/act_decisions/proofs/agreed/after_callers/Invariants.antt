use Rattle.act_decisions.proofs.Common.{flat_map, one_to, OfCall, placed, calls_told, AgreeUpTo}
use Rattle.act_decisions.proofs.agreed.after_callers.Given as goal

-- the lines so far are those of the callers so far
abbrev pub invariant-loop-before : goal.invariant-loop-before
invariant-loop-before l = AgreeUpTo (flat_map (λ c. placed (OfCall c) 0 (calls_told l.end c)) (one_to l.before)) l.rest l.left
