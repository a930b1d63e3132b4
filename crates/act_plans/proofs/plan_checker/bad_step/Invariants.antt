use Rattle.act_plans.proofs.Refusals.{HasPassed}
use Rattle.act_plans.proofs.plan_checker.bad_step.Given as goal

-- the steps so far were accepted
abbrev pub invariant-loop-place : goal.invariant-loop-place
invariant-loop-place l = HasPassed l.actors l.plan l.place l.plan_checker
