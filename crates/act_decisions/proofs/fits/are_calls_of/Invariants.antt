use Rattle.act_decisions.proofs.Common.{map, take, calls_of_steps, BeginsWith, submission_of_call}
use Rattle.act_decisions.proofs.fits.are_calls_of.Given as goal

-- the first calls are those of the steps so far
abbrev pub invariant-loop-step : goal.invariant-loop-step
invariant-loop-step l = BeginsWith l.told (calls_of_steps l.c (take l.step-index l.steps)) (map submission_of_call l.calls)
