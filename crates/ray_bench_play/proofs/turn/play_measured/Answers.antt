use Rattle.ray_bench_play.proofs.Common.{[], map, subst, actor_spec, IsReachedBy, world_view, events_in}
use Rattle.ray_bench_play.proofs.turn.play_measured.Goals as goal

pub returns : goal.returns
returns g c =
    let casts = map (actor_spec g.K.Actor.state) c.args.casts.items in let work = c.args.work.now in
    let new = world_view g.K.Actor.state c.play_all.new.world in
    subst (λ n. IsReachedBy casts (events_in work.style work n) new) c.requires.calls
    (c.in_ok-play_all.ensures.after casts [] c.in_ok-world.ensures.reached)
