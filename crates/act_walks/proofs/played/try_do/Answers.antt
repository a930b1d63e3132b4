use Rattle.act_walks.proofs.Common.{ap, ◌∙◌, refl, parts_of}
use Rattle.act_walks.proofs.Doing.{tries}
use Rattle.act_walks.proofs.played.try_do.Goals as goal

pub returns : goal.returns
returns g c = tries c.args.event (parts_of g.K.Actor.state c.args.walk.now)
    (parts_of g.K.Actor.state (record {
      world = c.try_event.new.world;
      events = c.try_event.new.events;
      done = c.args.walk.now.done;
      is_done = c.args.walk.now.is_done;
    })) c.in_ok-outcome.outcome c.is_ok.result
    c.in_ok-outcome.ensures.behind c.in_ok-outcome.ensures.kept c.in_ok-outcome.ensures.refused
    (λ same. ap (λ w. parts_of g.K.Actor.state
    (record { world = w; events = c.try_event.new.events; done = c.args.walk.now.done; is_done = c.args.walk.now.is_done })) same.0
    ∙ ap (λ v. parts_of g.K.Actor.state (record { world = c.args.walk.now.world; events = v; done = c.args.walk.now.done; is_done = c.args.walk.now.is_done }))
    same.1) refl c.is_ok.ensures.value
