use Rattle.act_decisions.proofs.Common.{take, steps_of_caller, StartsWith}
use Rattle.act_decisions.proofs.fits.are_steps_of.Given as goal

-- the caller's first steps are those so far
abbrev pub invariant-loop-step : goal.invariant-loop-step
invariant-loop-step l = StartsWith l.at (steps_of_caller l.c (take l.step-index l.steps)) l.own
