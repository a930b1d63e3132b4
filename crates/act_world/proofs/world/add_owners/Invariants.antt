use Rattle.act_world.proofs.Common.{ℕ, List, ◌++◌, take, HasOwners}
use Rattle.act_world.proofs.world.add_owners.Given as goal

-- those so far are there
abbrev pub invariant-loop-c : goal.invariant-loop-c
invariant-loop-c g l = (callers : List ℕ) → HasOwners l.casts callers l.initial.owners.items →
    HasOwners l.casts (callers ++ take l.c-index l.these) l.owners.items
