use Rattle.act_decisions.proofs.Common.{map, take, OfCall, placed, call_told, AgreeUpTo}
use Rattle.act_decisions.proofs.agreed.after_calls.Given as goal

-- the lines so far are those of the calls so far
abbrev pub invariant-loop-k : goal.invariant-loop-k
invariant-loop-k l = AgreeUpTo (placed (OfCall l.c) 0 (map call_told (take l.k l.calls))) l.rest l.left
