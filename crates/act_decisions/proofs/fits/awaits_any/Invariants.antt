use Rattle.act_decisions.proofs.Common.{◌≡◌, false, take, awaits}
use Rattle.act_decisions.proofs.fits.awaits_any.Given as goal

-- no step so far awaits an answer
abbrev pub invariant-loop-step : goal.invariant-loop-step
invariant-loop-step l = awaits l.c (take l.step-index l.steps) ≡ false
