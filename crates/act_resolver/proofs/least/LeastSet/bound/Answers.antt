use Rattle.std.proofs.Common.{length, sym, ap, arith, ◌∙◌}
use Rattle.act_resolver.proofs.Levels.{length-bits_of}
use Rattle.act_resolver.proofs.least.LeastSet.bound.Goals as goal

pub returns : goal.returns
returns c = let size = ap length (sym c.self.view_is) ∙ length-bits_of c.self.inside.leaves in omega (arith, c.count.ensures.count, size)
