use Rattle.act_resolver.proofs.Common.{◌/◌, ◌∙◌, length, sym, ap, arith, slice_set}
use Rattle.act_resolver.proofs.Levels.{bits_of-set, length-bits_of, tells_after}
use Rattle.act_resolver.proofs.least.LeastSet.set.Goals as goal

pub has-had_leaf-requires : goal.has-had_leaf-requires
has-had_leaf-requires c = let size = ap length (sym c.self.view_is) ∙ length-bits_of c.self.inside.leaves in omega (arith, size)

pub set-has_leaf-requires : goal.set-has_leaf-requires
set-has_leaf-requires c = let size = ap length (sym c.self.view_is) ∙ length-bits_of c.self.inside.leaves in omega (arith, size)

pub set-has_inner-requires : goal.set-has_inner-requires
set-has_inner-requires c = let size = ap length (sym c.self.view_is) ∙ length-bits_of c.self.inside.leaves in omega (arith, size, c.self.invariant.0.room)

pub set-requires : goal.set-requires
set-requires c = let size = ap length (sym c.self.view_is) ∙ length-bits_of c.self.inside.leaves in
    omega (arith, size, c.self.invariant.0.room, c.self.invariant.1.room)

pub invariant_of-self : goal.invariant_of-self
invariant_of-self c =
    let leaves = c.set-has_leaf.ensures in let inner = c.set-has_inner.ensures in
    let top = c.set.ensures in (
      record {
        room = omega (arith, c.self.invariant.0.room, leaves.count, inner.count);
        tells = tells_after c.self.inside.inner c.set-has_inner.new.self c.self.inside.leaves c.set-has_leaf.new.self
            (c.args.k / 64) c.self.invariant.0.tells leaves.any inner.same inner.others leaves.words;
      },
      record {
        room = omega (arith, c.self.invariant.1.room, inner.count, top.count);
        tells = tells_after c.self.inside.top c.set.new.self c.self.inside.inner c.set-has_inner.new.self
            (c.args.k / 64 / 64) c.self.invariant.1.tells inner.any top.same top.others inner.words;
      },
    )

pub returns-then-had_leaf-has_leaf : goal.returns-then-had_leaf-has_leaf
returns-then-had_leaf-has_leaf c =
    let size = ap length (sym c.self.view_is) ∙ length-bits_of c.self.inside.leaves in
    bits_of-set c.self.inside.leaves c.set-has_leaf.new.self c.args.k c.set-has_leaf.ensures.count
    (omega (arith, size)) c.set-has_leaf.ensures.same c.set-has_leaf.ensures.others
    ∙ ap (λ members. slice_set members c.args.k c.args.is_member) c.self.view_is

pub returns-else-had_leaf-has_leaf : goal.returns-else-had_leaf-has_leaf
returns-else-had_leaf-has_leaf c =
    let size = ap length (sym c.self.view_is) ∙ length-bits_of c.self.inside.leaves in
    bits_of-set c.self.inside.leaves c.set-has_leaf.new.self c.args.k c.set-has_leaf.ensures.count
    (omega (arith, size)) c.set-has_leaf.ensures.same c.set-has_leaf.ensures.others
    ∙ ap (λ members. slice_set members c.args.k c.args.is_member) c.self.view_is
