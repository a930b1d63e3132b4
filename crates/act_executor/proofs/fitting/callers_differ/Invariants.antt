use Rattle.act_executor.proofs.Common.{◌≢◌, AllPairs, take}
use Rattle.act_executor.proofs.fitting.callers_differ.Given as goal

-- the callers so far are distinct
abbrev pub invariant-loop-place : goal.invariant-loop-place
invariant-loop-place g l = AllPairs (λ one other. one.0 ≢ other.0) (take l.place l.codes)
