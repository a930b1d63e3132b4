use Rattle.ray_bench_play.proofs.Common.{[], ◌∷◌, subst, world_view, one_more, Send, Deliver, Run, Collect, StandsAfter, event_of, submission_of}
use Rattle.ray_bench_play.proofs.Standing.{stands_both}
use Rattle.ray_bench_play.proofs.play.follow.Goals as goal

pub returns-clause-after : goal.returns-clause-after
returns-clause-after g c =
    let call = c.args.call.now in let old = world_view g.K.Actor.state c.args.world.now in let submitted = world_view g.K.Actor.state c.submit.new.world in
    let sent = world_view g.K.Actor.state c.step.new.world in let arrived = world_view g.K.Actor.state c.step-2.new.world in
    let ran = world_view g.K.Actor.state c.step-3.new.world in let new = world_view g.K.Actor.state c.step-4.new.world in
    stands_both (submission_of call one_more ∷ []) (event_of Send call ∷ event_of Deliver call ∷ event_of Run call ∷ event_of Collect call ∷ []) old submitted
    new
    (subst (λ args. StandsAfter (submission_of call args ∷ []) old submitted) c.requires.args c.in_ok-submit.ensures.after)
    (stands_both (event_of Send call ∷ []) (event_of Deliver call ∷ event_of Run call ∷ event_of Collect call ∷ []) submitted sent new
    c.in_ok-step.ensures.after
    (stands_both (event_of Deliver call ∷ []) (event_of Run call ∷ event_of Collect call ∷ []) sent arrived new c.in_ok-step-2.ensures.after
    (stands_both (event_of Run call ∷ []) (event_of Collect call ∷ []) arrived ran new c.in_ok-step-3.ensures.after c.in_ok-step-4.ensures.after)))
