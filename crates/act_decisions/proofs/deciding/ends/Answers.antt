use Rattle.act_decisions.proofs.Common.{IfOk-weaker, not_so}
use Rattle.act_decisions.proofs.deciding.ends.Goals as goal

pub returns-then-not-walked-clause-exact : goal.returns-then-not-walked-clause-exact
returns-then-not-walked-clause-exact g c = λ casts events reached done matches. absurd (not_so done c.if-not-walked.true)

pub returns-clause-exact : goal.returns-clause-exact
returns-clause-exact g c = IfOk-weaker c.matches_told.result _ _ (λ is both casts events reached done matches. (both casts events reached).1 matches)
    c.matches_told.ensures
