use Rattle.std.proofs.Common.{◌≡◌, take}
use Rattle.act_types.proofs.lists.ListOfCopyOf.copy_of.Given as goal

-- the copies are the items so far
abbrev pub invariant-loop-item : goal.invariant-loop-item
invariant-loop-item g l = l.copies ≡ take l.item-index l.item-items
