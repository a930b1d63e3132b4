use Rattle.act_decisions.proofs.Common.{map, take, OfRun, placed, ran_told, AgreeUpTo}
use Rattle.act_decisions.proofs.agreed.after_runs.Given as goal

-- the lines so far are those of the runs so far
abbrev pub invariant-loop-place : goal.invariant-loop-place
invariant-loop-place l = AgreeUpTo (placed (OfRun l.a) 0 (map ran_told (take l.place l.runs))) l.rest l.left
