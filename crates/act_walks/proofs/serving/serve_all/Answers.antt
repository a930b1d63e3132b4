use Rattle.act_walks.proofs.Common.{◌≡◌, ◌+◌, arith, subst, Moves, NoServing, NoServings, parts_of}
use Rattle.act_walks.proofs.Onward.{row_none, moves_row}
use Rattle.act_walks.proofs.serving.serve_all.Goals as goal

pub loop-before-init : goal.loop-before-init
loop-before-init g c = row_none c.args.end.now NoServing (parts_of g.K.Actor.state c.args.walk.now)

pub loop-before-preserved : goal.loop-before-preserved
loop-before-preserved g c =
    let is : c.unwrap-a.result ≡ c.loop-before.before + 1 = rw c.unwrap-a.ensures at c.new.ensures.value in
    moves_row NoServing c.loop-before.before is c.loop-before.invariant c.in_ok-moved.ensures

pub returns : goal.returns
returns g c =
    let upto = c.loop-before-test.false in let last = c.loop-before.auto.before-end in let is : c.loop-before.before ≡ 8 = omega arith in
    subst (λ n. Moves c.args.end.now (NoServings n) (parts_of g.K.Actor.state c.args.walk.now)
    (parts_of g.K.Actor.state c.loop-before.walk) c.loop-before.moved) is c.loop-before.invariant
