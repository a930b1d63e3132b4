use Rattle.act_drive.proofs.Common.{rules, subst, IsCalling}
use Rattle.act_drive.proofs.AtWork.{work_begun}
use Rattle.act_drive.proofs.Worked.{has_worked}
use Rattle.act_drive.proofs.coded.work.Goals as goal

pub invariant_of-lent : goal.invariant_of-lent
invariant_of-lent g c = rw c.no_step.ensures (work_begun _ _ _ c.requires.calling c.requires.began c.requires.follows)

pub end_code-starved-requires : goal.end_code-starved-requires
end_code-starved-requires g c =
    record { calling = subst (λ l. IsCalling l c.lent.inside.driver) (c.requires.only _ _ c.lent.invariant.began_so).0 c.lent.invariant.calling }

pub returns : goal.returns
returns g c =
    let end = c.end_code-starved in
    has_worked g.O.Opening.began c.args.driver end.new.self end.result (g.C.Code.tells c.args.code) _
    c.lent.invariant c.requires.only end.ensures.calling end.ensures.stays end.ensures.traced end.ensures.calls end.ensures.done end.ensures.ended
    (λ well. let l = end.ensures.given_up well in let e = c.run.ensures in search rules)
    c.lent.view_is
