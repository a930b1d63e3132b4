use Rattle.ray_bench_play.proofs.Common.{◌++◌, world_view, Send, Deliver, Run, Collect, legs, submissions}
use Rattle.ray_bench_play.proofs.Standing.{stands_both}
use Rattle.ray_bench_play.proofs.play.share_legs.Goals as goal

pub returns : goal.returns
returns g c =
    let work = c.args.work.now in let n = c.args.calls in let old = world_view g.K.Actor.state c.args.world.now in
    let submitted = world_view g.K.Actor.state c.submit_all.new.world in let sent = world_view g.K.Actor.state c.step_all.new.world in
    let arrived = world_view g.K.Actor.state c.step_all-2.new.world in let ran = world_view g.K.Actor.state c.step_all-3.new.world in
    let new = world_view g.K.Actor.state c.step_all-4.new.world in
    record {
      after =
          stands_both (submissions work n) (legs Send work n ++ (legs Deliver work n ++ (legs Run work n ++ legs Collect work n))) old submitted new
          c.in_ok-submit_all.ensures.after
          (stands_both (legs Send work n) (legs Deliver work n ++ (legs Run work n ++ legs Collect work n)) submitted sent new c.in_ok-step_all.ensures.after
          (stands_both (legs Deliver work n) (legs Run work n ++ legs Collect work n) sent arrived new c.in_ok-step_all-2.ensures.after
          (stands_both (legs Run work n) (legs Collect work n) arrived ran new c.in_ok-step_all-3.ensures.after c.in_ok-step_all-4.ensures.after)));
    }
