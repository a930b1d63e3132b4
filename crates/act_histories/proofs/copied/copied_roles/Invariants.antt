use Rattle.act_histories.proofs.Common.{◌≡◌, take}
use Rattle.act_histories.proofs.copied.copied_roles.Given as goal

-- the roles so far
abbrev pub invariant-loop-role : goal.invariant-loop-role
invariant-loop-role l = l.copy ≡ take l.role-index l.roles
