use Rattle.act_plan_plays.proofs.Opened.{stands_in, inside}
use Rattle.act_plan_plays.proofs.RetiredAll.{begins}
use Rattle.act_plan_plays.proofs.plan_play.PlanPlay.retire.Goals as goal

pub returns : goal.returns
returns g c = λ casts plans at stands.
    let seen = inside g.K.Actor.state casts plans at _ c.args.self.now c.self.view_is stands in
    c.in_ok-retire_all.ensures casts plans at (begins casts plans at _ (stands_in seen))
