use Rattle.act_actor.proofs.Common.{take, ActorsDiffer}
use Rattle.act_actor.proofs.cast.actors_differ.Given as goal

-- the actors so far are distinct
abbrev pub invariant-loop-place : goal.invariant-loop-place
invariant-loop-place g l = ActorsDiffer (take l.place l.casts)
