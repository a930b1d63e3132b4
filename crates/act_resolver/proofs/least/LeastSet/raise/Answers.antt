use Rattle.act_resolver.proofs.Common.{◌∙◌, length, get_or, false, sym, ap, arith, on_ok_weaker}
use Rattle.act_resolver.proofs.Levels.{above_grown, get_or-bits_of, has_bit-same, length-bits_of}
use Rattle.act_resolver.proofs.least.LeastSet.raise.Goals as goal

pub invariant_of-self-2 : goal.invariant_of-self-2
invariant_of-self-2 c = (
  above_grown c.grow-2.new.self c.grow-3.new.self c.self.invariant.0 c.grow-2.ensures.words c.grow-3.ensures.words
      (omega (arith, c.self.invariant.0.room, c.in_ok-grow-2.ensures.ok, c.grow-3.ensures.at_most, c.div_ceil-inner.ensures)),
  above_grown c.grow.new.self c.grow-2.new.self c.self.invariant.1 c.grow.ensures.words c.grow-2.ensures.words
      (omega (arith, c.self.invariant.1.room, c.in_ok-grow.ensures.ok, c.grow-2.ensures.at_most, c.div_ceil.ensures)),
)

pub returns-clause-ok : goal.returns-clause-ok
returns-clause-ok c =
    let size = length-bits_of c.grow-3.new.self in
    on_ok_weaker c.grow-3.result (λ grown. omega (arith, size, grown, c.div_ceil-leaves.ensures)) c.grow-3.ensures.ok

pub returns-clause-grows : goal.returns-clause-grows
returns-clause-grows c =
    let size = ap length (sym c.self.view_is) ∙ length-bits_of c.self.inside.leaves in
    let after = length-bits_of c.grow-3.new.self in omega (arith, size, after, c.grow-3.ensures.grows)

pub returns-clause-members : goal.returns-clause-members
returns-clause-members c k =
    get_or-bits_of c.grow-3.new.self k
    ∙ has_bit-same c.self.inside.leaves c.grow-3.new.self c.grow-3.ensures.words k
    ∙ sym (get_or-bits_of c.self.inside.leaves k)
    ∙ ap (λ members. get_or members k false) c.self.view_is
