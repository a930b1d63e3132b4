use Rattle.act_decisions.proofs.Calls.{submits_none}
use Rattle.act_decisions.proofs.compared.has_none.Goals as goal

pub returns-then-not-is_silent-clause-exact : goal.returns-then-not-is_silent-clause-exact
returns-then-not-is_silent-clause-exact c = λ none.
    let silent = c.is_silent.ensures.exact c.step-item.result.2
    (submits_none c.args.c c.args.steps.now c.loop-step-test.true c.step-item.is none) in
    cc (c.if-not-is_silent.true, silent)
