use Rattle.act_decisions.proofs.Common.{subst, IfSome, ◌∷◌, [], OfRun, ran_told, AgreeUpTo}
use Rattle.act_decisions.proofs.Agreeing.{member_more, members_all}
use Rattle.act_decisions.proofs.agreed.after_runs.Goals as goal

pub loop-place-preserved : goal.loop-place-preserved
loop-place-preserved c =
    let run = c.index-runs-place.result in
    let one = subst (λ o. IfSome o
    (λ left. AgreeUpTo (OfRun c.args.a c.loop-place.place (ran_told run) ∷ []) c.loop-place.left.now left.now)) c.in-Some.is c.in_ok-next.ensures in
    member_more ran_told (OfRun c.args.a) c.args.runs.now run
    c.loop-place-test.true c.index-runs-place.is c.loop-place.invariant one

pub returns : goal.returns
returns c = members_all ran_told (OfRun c.args.a) c.args.runs.now c.loop-place-test.false c.loop-place.invariant
