use Rattle.ray_orders.proofs.Growing.{grows_both}
use Rattle.ray_orders.proofs.judging.write_reasons.Goals as goal

pub returns-clause-ok : goal.returns-clause-ok
returns-clause-ok g c = grows_both _ _ _ c.in_ok-write_each.ensures.ok c.in_ok-write_each-2.ensures.ok
