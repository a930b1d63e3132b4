use Rattle.example_uses.proofs.Common.{subst, sym, IsPrefix, world_view, submitted_in}
use Rattle.example_uses.proofs.front.ran_of.Goals as goal

pub returns-clause-front : goal.returns-clause-front
returns-clause-front g c = λ casts events reached.
    subst (λ ran. IsPrefix ran (submitted_in (world_view g.K.Actor.state c.args.world.now) c.args.a c.args.c)) (sym c.in_ok-ran.ensures)
    ((c.consistent.ensures casts events reached).in_order c.args.a c.args.c)
