use Rattle.act_plan_plays.proofs.Opened.{stands_in, stands_at, inside}
use Rattle.act_plan_plays.proofs.Heard.{chosen_on}
use Rattle.act_plan_plays.proofs.plan_play.PlanPlay.choose.Goals as goal

pub returns : goal.returns
returns g c = λ casts plans at stands.
    let seen = inside g.K.Actor.state casts plans at _ c.args.self.now c.self.view_is stands in
    let chosen = c.in_ok-choose.ensures casts plans at (stands_in seen) in
    let next = c.in_ok-quiesce.ensures casts plans chosen.0 chosen.1 seen.setups in
    (next.0, stands_at _ next.1 seen.setups, next.2, chosen_on c.args.choice at.history next.0.history chosen.2 next.3)
