use Rattle.act_told.proofs.Common.{◌≡◌, take, callers_told}
use Rattle.act_told.proofs.actors.callers_of.Given as goal

-- those so far are told
abbrev pub invariant-loop-owner : goal.invariant-loop-owner
invariant-loop-owner l = l.callers ≡ callers_told (take l.owner-index l.owners) l.id
