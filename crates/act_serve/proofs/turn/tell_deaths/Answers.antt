use Rattle.std.proofs.Common.{rules}
use Rattle.act_serve.proofs.Serving.{told_next}
use Rattle.act_serve.proofs.turn.tell_deaths.Goals as goal

pub loop-endpoint-preserved : goal.loop-endpoint-preserved
loop-endpoint-preserved g c =
    told_next g.S.Stamped.stamp c.deref_mut-endpoint-items.result.now c.loop-endpoint.endpoint-index
    (search rules) c.loop-endpoint.invariant c.endpoint-item.is c.id.ensures c.run_log.ensures c.give.ensures
