use Rattle.act_walks.proofs.Common.{ap, ◌∙◌, refl, Parts, parts_of}
use Rattle.act_walks.proofs.Doing.{tried_ok, tried_err, posts_brought, posts_none}
use Rattle.act_walks.proofs.played.try_post.Goals as goal

pub returns-in_default : goal.returns-in_default
returns-in_default g c = tried_err c.in_ok-told.field-0 c.in_default.not-Ok c.in_ok-told.ensures.behind c.in_ok-told.ensures.refused (λ same. ap (λ w. parts_of
    g.K.Actor.state (record { world = w; events = c.try_event.new.events; done = c.args.walk.now.done; is_done = c.args.walk.now.is_done })) same.0 ∙ ap (λ v.
    parts_of g.K.Actor.state (record { world = c.args.walk.now.world; events = v; done = c.args.walk.now.done; is_done = c.args.walk.now.is_done })) same.1)

pub returns-in_ok-_outcome : goal.returns-in_ok-_outcome
returns-in_ok-_outcome g c =
    let old : Parts = parts_of g.K.Actor.state c.args.walk.now in
    let mid : Parts = parts_of g.K.Actor.state
    (record { world = c.try_event.new.world; events = c.try_event.new.events; done = c.args.walk.now.done; is_done = c.args.walk.now.is_done }) in
    let new : Parts = parts_of g.K.Actor.state
    (record {
      world = c.try_event-in-Mail.new.world;
      events = c.try_event-in-Mail.new.events;
      done = c.args.walk.now.done;
      is_done = c.args.walk.now.is_done;
    }) in
    posts_brought c.args.event old mid new c.in-Ok.told c.in-Mail.i c.in_ok-_outcome._outcome
    (tried_ok old mid c.in-Ok.is c.in_ok-told.ensures.behind c.in_ok-told.ensures.kept refl) c.in-Mail.is
    c.in_ok-_outcome.ensures.behind c.in_ok-_outcome.ensures.kept c.in_ok-_outcome.ensures.refused
    (λ same. ap (λ w. parts_of g.K.Actor.state
    (record { world = w; events = c.try_event-in-Mail.new.events; done = c.args.walk.now.done; is_done = c.args.walk.now.is_done })) same.0
    ∙ ap (λ v. parts_of g.K.Actor.state (record { world = c.try_event.new.world; events = v; done = c.args.walk.now.done; is_done = c.args.walk.now.is_done }))
    same.1) refl

pub returns-in_default-told : goal.returns-in_default-told
returns-in_default-told g c =
    let old : Parts = parts_of g.K.Actor.state c.args.walk.now in
    let new : Parts = parts_of g.K.Actor.state
    (record { world = c.try_event.new.world; events = c.try_event.new.events; done = c.args.walk.now.done; is_done = c.args.walk.now.is_done }) in
    posts_none c.args.event old new c.in-Ok.told
    (tried_ok old new c.in-Ok.is c.in_ok-told.ensures.behind c.in_ok-told.ensures.kept refl)
    c.in_default-told.not-Mail
