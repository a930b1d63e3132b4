use Rattle.act_decisions.proofs.Common.{refl}
use Rattle.act_decisions.proofs.Calls.{front_goes_on, begins_more}
use Rattle.act_decisions.proofs.compared.has_calls.Goals as goal

pub loop-step-preserved : goal.loop-step-preserved
loop-step-preserved c =
    front_goes_on c.args.c c.args.steps.now
    c.loop-step-test.true c.step-item.is (c.in-Some.ensures.begins c.step-item.result.2) c.loop-step.invariant

pub returns-in-None-clause-exact : goal.returns-in-None-clause-exact
returns-in-None-clause-exact c = λ has.
    let more = begins_more c.args.c c.args.steps.now c.loop-step-test.true
    c.step-item.is c.loop-step.invariant has in
    absurd (c.in-None.ensures.exact c.step-item.result.2 more.0 more.1 refl)
