use Rattle.act_decisions.proofs.Common.{◌+◌, subst, IfSome, stems_of_actor, ends_told, AgreeUpTo}
use Rattle.act_decisions.proofs.Agreeing.{number_more}
use Rattle.act_decisions.proofs.agreed.after_actors.Goals as goal

pub loop-before-preserved : goal.loop-before-preserved
loop-before-preserved c =
    let end = c.args.end.now in let n = c.loop-before.before in
    let one = subst (λ o. IfSome o
    (λ left. AgreeUpTo (stems_of_actor (n + 1) (ends_told end (n + 1))) c.loop-before.left.now left.now)) c.in-Some.is c.in_ok-next.ensures in
    number_more (λ a. stems_of_actor a (ends_told end a)) n c.loop-before.invariant one
