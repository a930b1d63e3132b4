use Rattle.act_walks.proofs.Common.{◌≡◌, ◌+◌, arith, subst, Moves, NoTell, NoTellsOf, parts_of}
use Rattle.act_walks.proofs.Onward.{row_none, moves_row}
use Rattle.act_walks.proofs.hearing.hear_of.Goals as goal

pub loop-before-init : goal.loop-before-init
loop-before-init g c = row_none c.args.end.now (λ own. NoTell own c.args.a) (parts_of g.K.Actor.state c.args.walk.now)

pub loop-before-preserved : goal.loop-before-preserved
loop-before-preserved g c =
    let is : c.unwrap-c.result ≡ c.loop-before.before + 1 = rw c.unwrap-c.ensures at c.new.ensures.value in
    moves_row (λ own. NoTell own c.args.a) c.loop-before.before is c.loop-before.invariant c.in_ok-moved.ensures

pub returns : goal.returns
returns g c =
    let upto = c.loop-before-test.false in let last = c.loop-before.auto.before-end in let is : c.loop-before.before ≡ 16 = omega arith in
    subst (λ n. Moves c.args.end.now (NoTellsOf n c.args.a) (parts_of g.K.Actor.state c.args.walk.now)
    (parts_of g.K.Actor.state c.loop-before.walk) c.loop-before.moved) is c.loop-before.invariant
