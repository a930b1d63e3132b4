use Rattle.act_walks.proofs.Common.{subst, Moves, parts_of, NoCall, NoAct}
use Rattle.act_walks.proofs.Onward.{moves_both}
use Rattle.act_walks.proofs.acting.act.Goals as goal

pub returns : goal.returns
returns g c = moves_both (NoAct c.args.end.now c.args.c) (λ told done h one two. (one, two)) (subst (λ b. Moves c.args.end.now (NoCall c.args.end.now c.args.c)
    (parts_of g.K.Actor.state c.args.walk.now) (parts_of g.K.Actor.state c.call.new.walk) b) c.if-branch.false c.in_ok-call.ensures) c.in_ok-moved.ensures
