use Rattle.act_walks.proofs.Common.{subst, Moves, NoMove, parts_of}
use Rattle.act_walks.proofs.Onward.{goes_same, goes_trans}
use Rattle.act_walks.proofs.Rounds.{comes_through}
use Rattle.act_walks.proofs.going.go.Goals as goal

pub loop-init : goal.loop-init
loop-init g c = goes_same c.args.end.now (parts_of g.K.Actor.state c.args.walk.now)

pub loop-preserved : goal.loop-preserved
loop-preserved g c = goes_trans c.loop.invariant c.in_ok-round.ensures.goes

pub returns-then-not-branch : goal.returns-then-not-branch
returns-then-not-branch g c = comes_through c.loop.invariant (subst (λ b. Moves c.args.end.now (NoMove c.args.end.now) (parts_of g.K.Actor.state c.loop.walk)
    (parts_of g.K.Actor.state c.round.new.walk) b) c.if-not-branch.true c.in_ok-round.ensures)
