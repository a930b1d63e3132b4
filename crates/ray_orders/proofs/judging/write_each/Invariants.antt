use Rattle.ray_orders.specs.Told.{Grows}
use Rattle.ray_orders.proofs.judging.write_each.Given as goal

-- some text is written so far
abbrev pub invariant-loop-item : goal.invariant-loop-item
invariant-loop-item g l = Grows (g.W.Write.contents l.fn.writer) (g.W.Write.contents l.writer)
