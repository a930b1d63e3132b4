use Rattle.act_owner.proofs.Calls.{copied_fine}
use Rattle.act_owner.proofs.owner.Owner.copy.Goals as goal

pub invariant_of-self : goal.invariant_of-self
invariant_of-self c = let inside = c.self.inside in copied_fine c.args.a c.copy.result c.copy.new.self c.copy.ensures.ok c.copy.ensures.err c.self.invariant
