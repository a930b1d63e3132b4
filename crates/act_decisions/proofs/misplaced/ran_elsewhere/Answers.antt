use Rattle.act_decisions.proofs.Common.{◌∙◌, Twice}
use Rattle.act_decisions.proofs.misplaced.ran_elsewhere.Goals as goal

pub returns : goal.returns
returns c = λ there.
    let run = c.stands_there.ensures there c.in-Some.place.0 c.in-Some.place.1 c.in-Some.is in
    Twice c.in-Some.place.0 c.in-Some.place.1 run.0 run.1 (run.2 ∙ (λ i. (c.number.ensures.value i, c.number-2.ensures i)))
    (c.is_elsewhere.ensures c.if-not-is_elsewhere.false)
