use Rattle.act_plans.proofs.Common.{◌≢◌, AllPairs, take}
use Rattle.act_plans.proofs.plan_checker.callers_differ.Given as goal

-- the callers so far are distinct
abbrev pub invariant-loop-place : goal.invariant-loop-place
invariant-loop-place l = AllPairs (λ one other. one.0 ≢ other.0) (take l.place l.plans)
