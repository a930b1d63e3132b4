use Rattle.act_plan_plays.proofs.Opened.{stands_in, inside}
use Rattle.act_plan_plays.proofs.plan_play.PlanPlay.choices.Goals as goal

pub returns-clause-runs : goal.returns-clause-runs
returns-clause-runs g c = λ casts plans at stands a own may next.
    let seen = inside g.K.Actor.state casts plans at _ c.args.self.now c.self.view_is stands in
    c.in_ok-choices.ensures.runs casts plans at (stands_in seen) seen.setups a own may next

pub returns-clause-kills : goal.returns-clause-kills
returns-clause-kills g c = λ casts plans at stands a may.
    let seen = inside g.K.Actor.state casts plans at _ c.args.self.now c.self.view_is stands in
    c.in_ok-choices.ensures.kills casts plans at (stands_in seen) seen.setups a may
