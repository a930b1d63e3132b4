use Rattle.act_decisions.proofs.Common.{◌+◌, subst, IfSome, OfCall, placed, calls_told, AgreeUpTo}
use Rattle.act_decisions.proofs.Agreeing.{number_more}
use Rattle.act_decisions.proofs.agreed.after_callers.Goals as goal

pub loop-before-preserved : goal.loop-before-preserved
loop-before-preserved c =
    let end = c.args.end.now in let n = c.loop-before.before in
    let one = subst (λ o. IfSome o
    (λ left. AgreeUpTo (placed (OfCall (n + 1)) 0 (calls_told end (n + 1))) c.loop-before.left.now left.now)) c.in-Some.is c.in_ok-next.ensures in
    number_more (λ c. placed (OfCall c) 0 (calls_told end c)) n c.loop-before.invariant one
