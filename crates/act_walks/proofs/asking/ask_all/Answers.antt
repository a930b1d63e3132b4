use Rattle.act_walks.proofs.Common.{◌≡◌, ◌+◌, subst, arith, parts_of, AsksFrom}
use Rattle.act_walks.proofs.Asks.{asks_start, asks_next, sets_out}
use Rattle.act_walks.proofs.asking.ask_all.Goals as goal

pub loop-before-init : goal.loop-before-init
loop-before-init g c = asks_start c.args.end.now (parts_of g.K.Actor.state c.args.walk.now)

pub loop-before-preserved : goal.loop-before-preserved
loop-before-preserved g c =
    let next : c.unwrap-a.result ≡ c.loop-before.before + 1 = rw c.unwrap-a.ensures at c.new.ensures.value in
    asks_next c.loop-before.before next c.loop-before.invariant c.in_ok-ask.ensures

pub returns : goal.returns
returns g c =
    let upto = c.loop-before-test.false in let last = c.loop-before.auto.before-end in let whole : c.loop-before.before ≡ 8 = omega arith in
    sets_out
    (subst (λ n. AsksFrom c.args.end.now 1 (n + 1) (parts_of g.K.Actor.state c.args.walk.now) (parts_of g.K.Actor.state c.loop-before.walk))
    whole c.loop-before.invariant)
