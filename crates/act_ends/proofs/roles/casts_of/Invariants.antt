use Rattle.act_ends.proofs.Common.{◌≡◌, map, take, actor_spec_of, state_of}
use Rattle.act_actor.specs.Casts.{actor_spec}
use Rattle.act_ends.proofs.roles.casts_of.Given as goal

-- the casts of the first roles are there
abbrev pub invariant-loop-role : goal.invariant-loop-role
invariant-loop-role l = map (actor_spec state_of) l.casts.items ≡ map actor_spec_of (take l.role-index l.roles)
