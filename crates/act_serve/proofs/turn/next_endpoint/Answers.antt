use Rattle.act_serve.proofs.Common.{rules, length, get_or, arith, has_next}
use Rattle.act_serve.proofs.Nexts.{none_more, position_here, position_nowhere, next_is}
use Rattle.act_serve.proofs.AtOnce.{none_next}
use Rattle.act_serve.proofs.turn.next_endpoint.Goals as goal

pub returns-then-holds_none : goal.returns-then-holds_none
returns-then-holds_none g c =
    let actor = c.args.live.now in let none = c.holds_none.ensures.0 c.if-holds_none.true in
    position_nowhere (has_next c.args.replies.now actor) c.args.notices.now {n = length c.args.notices.now} (omega arith)
    (λ k d lt. none_next c.args.replies.now actor (get_or c.args.notices.now k d) none)

pub returns-then-has_next : goal.returns-then-has_next
returns-then-has_next g c =
    let actor = c.args.live.now in let endpoint = c.index-notices-at.result in
    position_here (has_next c.args.replies.now actor) c.args.notices.now endpoint c.loop-at-test.true
    (next_is c.args.replies.now actor c.args.notices.now endpoint _ c.loop-at-test.true c.index-notices-at.is
    (search rules) c.index-replies-endpoint.is c.caller.ensures c.has_next.ensures c.if-has_next.true) c.loop-at.invariant

pub loop-at-preserved : goal.loop-at-preserved
loop-at-preserved g c =
    let actor = c.args.live.now in
    none_more (has_next c.args.replies.now actor) c.args.notices.now c.loop-at.at c.loop-at.invariant
    (λ d. next_is c.args.replies.now actor c.args.notices.now d _
    c.loop-at-test.true c.index-notices-at.is (search rules) c.index-replies-endpoint.is c.caller.ensures c.has_next.ensures c.if-has_next.false)

pub returns : goal.returns
returns g c = position_nowhere (has_next c.args.replies.now c.args.live.now) c.args.notices.now c.loop-at-test.false c.loop-at.invariant
