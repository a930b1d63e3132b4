use Rattle.act_code_ends.proofs.Common.{[], subst, IsReachedBy, world_view}
use Rattle.act_code_ends.proofs.certified.world_of.Goals as goal

pub returns-clause-accepted : goal.returns-clause-accepted
returns-clause-accepted g c =
    let specs = g.O.Opening.casts c.args.opening.now in
    let opened = subst (λ casts. IsReachedBy casts [] (world_view g.K.Actor.state c.in_ok-world.world)) c.in_ok-open.ensures.casts
    c.in_ok-world.ensures.reached in
    (c.in_ok-accepted.ensures.accepted specs opened).0 c.if-not-accepted.false

pub returns-clause-reached : goal.returns-clause-reached
returns-clause-reached g c =
    let specs = g.O.Opening.casts c.args.opening.now in
    let opened = subst (λ casts. IsReachedBy casts [] (world_view g.K.Actor.state c.in_ok-world.world)) c.in_ok-open.ensures.casts
    c.in_ok-world.ensures.reached in
    c.in_ok-accepted.ensures.reached specs opened
