use Rattle.act_serve.proofs.Common.{rules, sym, true, is_endpoint_of}
use Rattle.act_serve.proofs.Nexts.{position_here, position_nowhere}
use Rattle.act_serve.proofs.AtOnce.{endpoint_is}
use Rattle.act_serve.proofs.letter.endpoint_of.Goals as goal

pub returns-then-eq : goal.returns-then-eq
returns-then-eq c =
    let endpoint = c.index-notices-at.result in
    position_here (is_endpoint_of c.args.replies.now c.args.caller) c.args.notices.now endpoint c.loop-at-test.true
    (endpoint_is c.args.replies.now c.args.caller c.args.notices.now c.loop-at.at endpoint endpoint true
    c.loop-at-test.true c.index-notices-at.is (search rules) c.index-replies-endpoint.is c.caller.ensures (sym c.if-eq.ensures)) c.loop-at.invariant

pub returns : goal.returns
returns c = position_nowhere (is_endpoint_of c.args.replies.now c.args.caller) c.args.notices.now c.loop-at-test.false c.loop-at.invariant
