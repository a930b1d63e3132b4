use Rattle.act_decisions.proofs.Common.{IfOk-weaker}
use Rattle.act_decisions.proofs.Answering.{told_by_none, told_by_some}
use Rattle.act_decisions.proofs.answers.answers_of.Goals as goal

pub returns-in-None : goal.returns-in-None
returns-in-None c = λ end p same. told_by_none c.args.roles.now end c.args.a p c.new.ensures.items c.in-None.ensures

pub returns-in-Some : goal.returns-in-Some
returns-in-Some c =
    IfOk-weaker c.answers_of_kind.result _ _
    (λ told are end p same. told_by_some c.args.roles.now end c.args.a p c.in-Some.ensures same are)
    c.answers_of_kind.ensures
