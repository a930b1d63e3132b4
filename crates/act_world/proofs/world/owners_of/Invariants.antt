use Rattle.act_world.proofs.Common.{take, callers_named, HasOwners}
use Rattle.act_world.proofs.world.owners_of.Given as goal

-- the callers of the casts so far are there
abbrev pub invariant-loop-cast : goal.invariant-loop-cast
invariant-loop-cast g l = HasOwners l.casts (callers_named (take l.cast-index l.casts)) l.owners.items
