use Rattle.std.proofs.Common.{string_bytes}
use Rattle.ray_orders.proofs.Growing.{grows_both, grows_more}
use Rattle.ray_orders.proofs.judging.write_each.Goals as goal

pub loop-item-preserved : goal.loop-item-preserved
loop-item-preserved g c = grows_both _ _ _ c.loop-item.invariant c.in_ok-flush_much.ensures.ok

pub returns-clause-ok : goal.returns-clause-ok
returns-clause-ok g c = grows_more _ _ _ (string_bytes c.loop-item.text) c.loop-item.invariant c.in_ok-flush.ensures.ok
