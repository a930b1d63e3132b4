use Rattle.act_walks.proofs.Common.{subst, Moves, parts_of, NoServing}
use Rattle.act_walks.proofs.Onward.{goes_trans, moves_last}
use Rattle.act_walks.proofs.serving.serve_far.Goals as goal

pub returns-then-not-branch : goal.returns-then-not-branch
returns-then-not-branch g c = moves_last c.loop.moved c.loop.invariant.goes c.loop.invariant.same (subst (λ b. Moves c.args.end.now (NoServing c.args.a)
    (parts_of g.K.Actor.state c.loop.walk) (parts_of g.K.Actor.state c.serve.new.walk) b) c.if-not-branch.true c.in_ok-serve.ensures)

pub loop-preserved : goal.loop-preserved
loop-preserved g c = record { goes = goes_trans c.loop.invariant.goes c.in_ok-serve.ensures.goes; same = λ e. cc }
