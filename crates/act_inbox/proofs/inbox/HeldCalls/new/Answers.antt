use Rattle.act_inbox.proofs.Common.{◌≡◌, length, arith}
use Rattle.act_inbox.proofs.Keys.{held_at_first}
use Rattle.act_inbox.proofs.inbox.HeldCalls.new.Goals as goal

pub invariant_of-result : goal.invariant_of-result
invariant_of-result c =
    let one_each : length c.loop.keys.items ≡ 17 = omega (arith, c.loop.invariant.0) in held_at_first _ _ c.new-2.ensures.empty one_each c.loop.invariant.1
