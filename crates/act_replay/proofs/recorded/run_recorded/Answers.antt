use Rattle.act_replay.proofs.Common.{map, subst, actor_spec, Finished, end_view, plan_view, IsPlayOf}
use Rattle.act_replay.proofs.Faults.{play_fault}
use Rattle.act_replay.proofs.Twins.{twins_fit}
use Rattle.act_replay.proofs.recorded.run_recorded.Goals as goal

pub checked_events-play-requires : goal.checked_events-play-requires
checked_events-play-requires g c = record { fit = twins_fit g.K.Actor.state _ c.args.twins.items c.requires.twins c.requires.fit }

pub returns-in-Err-clause-fault : goal.returns-in-Err-clause-fault
returns-in-Err-clause-fault g c =
    play_fault (map (actor_spec g.K.Actor.state) c.args.casts.items)
    (map plan_view c.args.plans.items) c.in_ok-ran.ensures.good c.in-Err.fault c.in-Err.ensures.fault

pub returns-in-Ok-clause-played : goal.returns-in-Ok-clause-played
returns-in-Ok-clause-played g c =
    subst (λ casts. IsPlayOf casts c.in-Ok.events.items c.in_ok-ran.ran.0.owners.items
    (map (λ (actor : Finished _ _). end_view g.K.Actor.state actor.ended) c.in_ok-ran.ran.0.actors.items))
    c.requires.twins c.in-Ok.ensures.played
