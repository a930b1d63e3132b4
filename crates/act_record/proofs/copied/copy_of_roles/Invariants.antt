use Rattle.act_record.proofs.Common.{◌≡◌, take}
use Rattle.act_record.proofs.copied.copy_of_roles.Given as goal

-- the copies are the roles so far
abbrev pub invariant-loop-role : goal.invariant-loop-role
invariant-loop-role l = l.copies ≡ take l.role-index l.roles
