use Rattle.act_plan_plays.proofs.Common.{map, actor_spec, world_view}
use Rattle.act_plan_plays.proofs.Opened.{opens}
use Rattle.act_plan_plays.proofs.plan_play.new_play.Goals as goal

pub returns : goal.returns
returns g c = λ plans. opens (map (actor_spec g.K.Actor.state) c.args.casts.items) plans (world_view g.K.Actor.state c.in_ok-world.world) c.new.result.items
    c.new-2.result.items c.in_ok-world.ensures.reached c.new.ensures.items c.new-2.ensures.items
