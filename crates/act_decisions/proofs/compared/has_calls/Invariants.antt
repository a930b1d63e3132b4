use Rattle.act_decisions.proofs.Common.{take, calls_of_steps, BeginsWith}
use Rattle.act_decisions.proofs.compared.has_calls.Given as goal

-- the first calls are those of the steps so far
abbrev pub invariant-loop-step : goal.invariant-loop-step
invariant-loop-step l = BeginsWith l.told (calls_of_steps l.c (take l.step-index l.steps)) l.owner.calls
