use Rattle.act_told.proofs.Common.{◌≡◌, take, takes_told}
use Rattle.act_told.proofs.calls.takes_of.Given as goal

-- those so far are told
abbrev pub invariant-loop-arg : goal.invariant-loop-arg
invariant-loop-arg l = l.takes ≡ takes_told l.start (take l.arg-index l.args)
