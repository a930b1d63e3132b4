use Rattle.act_world.proofs.Common.{◌≡◌}
use Rattle.act_world.proofs.network.make_room_for.Given as goal

-- no caller has changed
abbrev pub invariant-loop-owner : goal.invariant-loop-owner
invariant-loop-owner l = l.owners ≡ l.fn.owners
