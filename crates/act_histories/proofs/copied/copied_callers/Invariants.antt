use Rattle.act_histories.proofs.Common.{◌≡◌, take}
use Rattle.act_histories.proofs.copied.copied_callers.Given as goal

-- the callers so far
abbrev pub invariant-loop-caller : goal.invariant-loop-caller
invariant-loop-caller l = l.copy ≡ take l.caller-index l.callers
