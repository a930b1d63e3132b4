use Rattle.act_walks.proofs.Common.{◌≡◌, ◌+◌, arith, subst, Moves, NoAct, NoActs, parts_of}
use Rattle.act_walks.proofs.Onward.{row_none, moves_row}
use Rattle.act_walks.proofs.acting.act_all.Goals as goal

pub loop-before-init : goal.loop-before-init
loop-before-init g c = row_none c.args.end.now (NoAct c.args.end.now) (parts_of g.K.Actor.state c.args.walk.now)

pub loop-before-preserved : goal.loop-before-preserved
loop-before-preserved g c =
    let is : c.unwrap-c.result ≡ c.loop-before.before + 1 = rw c.unwrap-c.ensures at c.new.ensures.value in
    moves_row (NoAct c.args.end.now) c.loop-before.before is c.loop-before.invariant c.in_ok-moved.ensures

pub returns : goal.returns
returns g c =
    let upto = c.loop-before-test.false in let last = c.loop-before.auto.before-end in let is : c.loop-before.before ≡ 16 = omega arith in
    subst (λ n. Moves c.args.end.now (NoActs c.args.end.now n) (parts_of g.K.Actor.state c.args.walk.now)
    (parts_of g.K.Actor.state c.loop-before.walk) c.loop-before.moved) is c.loop-before.invariant
