use Rattle.act_walks.proofs.Common.{subst, Moves, parts_of, NoRuns, NoServing}
use Rattle.act_walks.proofs.Onward.{moves_both}
use Rattle.act_walks.proofs.serving.serve.Goals as goal

pub returns : goal.returns
returns g c = moves_both (NoServing c.args.a) (λ told done h one two. (one, two)) (subst (λ b. Moves c.args.end.now (NoRuns c.args.a) (parts_of g.K.Actor.state
    c.args.walk.now) (parts_of g.K.Actor.state c.run_next.new.walk) b) c.if-branch.false c.in_ok-run_next.ensures) c.in_ok-moved.ensures
