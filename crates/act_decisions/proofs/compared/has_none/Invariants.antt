use Rattle.act_decisions.proofs.Common.{◌≡◌, [], take, calls_of_steps}
use Rattle.act_decisions.proofs.compared.has_none.Given as goal

-- the steps so far submit nothing of the caller's
abbrev pub invariant-loop-step : goal.invariant-loop-step
invariant-loop-step l = calls_of_steps l.c (take l.step-index l.steps) ≡ []
