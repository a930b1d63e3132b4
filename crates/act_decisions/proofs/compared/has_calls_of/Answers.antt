use Rattle.act_decisions.proofs.Common.{None, ◌∙◌, history, calls_are, world_lawful}
use Rattle.act_decisions.proofs.Calls.{nobodys}
use Rattle.act_decisions.proofs.compared.has_calls_of.Goals as goal

pub returns-in-None-clause-exact : goal.returns-in-None-clause-exact
returns-in-None-clause-exact g c = λ casts events reached has.
    let h = history casts events in
    c.has_none.ensures.exact (nobodys c.args.c c.args.steps.now
    (calls_are h c.args.c None (world_lawful casts events) (c.in-None.ensures.reached casts events reached)) has)

pub returns-in-Some-clause-exact : goal.returns-in-Some-clause-exact
returns-in-Some-clause-exact g c = λ casts events reached has.
    c.has_calls.ensures.exact (λ some. (c.in-Some.ensures.reached casts events reached).1.calls ∙ has some)
