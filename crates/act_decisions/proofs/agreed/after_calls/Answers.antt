use Rattle.act_decisions.proofs.Common.{subst, IfSome, ◌∷◌, [], OfCall, call_told, AgreeUpTo}
use Rattle.act_decisions.proofs.Agreeing.{member_more, members_all}
use Rattle.act_decisions.proofs.agreed.after_calls.Goals as goal

pub loop-k-preserved : goal.loop-k-preserved
loop-k-preserved c =
    let call = c.index-calls-k.result in
    let one = subst (λ o. IfSome o (λ left. AgreeUpTo (OfCall c.args.c c.loop-k.k (call_told call) ∷ []) c.loop-k.left.now left.now))
    c.in-Some.is c.in_ok-next.ensures in
    member_more call_told (OfCall c.args.c) c.args.calls.now call
    c.loop-k-test.true c.index-calls-k.is c.loop-k.invariant one

pub returns : goal.returns
returns c = members_all call_told (OfCall c.args.c) c.args.calls.now c.loop-k-test.false c.loop-k.invariant
