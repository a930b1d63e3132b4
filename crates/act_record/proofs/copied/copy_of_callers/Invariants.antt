use Rattle.act_record.proofs.Common.{◌≡◌, take}
use Rattle.act_record.proofs.copied.copy_of_callers.Given as goal

-- the copies are the callers so far
abbrev pub invariant-loop-caller : goal.invariant-loop-caller
invariant-loop-caller l = l.copies ≡ take l.caller-index l.callers
