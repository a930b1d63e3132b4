use Rattle.act_actor.proofs.Common.{take, CallersDiffer}
use Rattle.act_actor.proofs.cast.callers_differ.Given as goal

-- the callers so far are distinct
abbrev pub invariant-loop-place : goal.invariant-loop-place
invariant-loop-place l = CallersDiffer (take l.place l.callers)
