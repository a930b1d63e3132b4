use Rattle.act_plan_plays.proofs.Common.{map, actor_spec}
use Rattle.act_plan_plays.proofs.Opened.{stands_at, no_runs, no_kills}
use Rattle.act_plan_plays.proofs.plan_play.PlanPlay.open.Goals as goal

pub returns : goal.returns
returns g c = λ plans hold.
    let casts = map (actor_spec g.K.Actor.state) c.args.casts.items in let first = c.in_ok-played.ensures plans in
    let next = c.in_ok-quiesce.ensures casts plans first.0 first.1 hold in (
      next.0,
      stands_at _ next.1 hold,
      next.2,
      (λ a. no_runs a (first.2 a) next.3),
      no_kills first.3 next.3,
    )
