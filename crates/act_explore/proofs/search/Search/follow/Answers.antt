use Rattle.act_explore.proofs.Common.{subst, At, IsQuiescent, HoldPlans, StandsAt, play_view, HasMade}
use Rattle.act_explore.proofs.Oks.{ok_weaker}
use Rattle.act_explore.proofs.search.Search.follow.Goals as goal

pub returns-in-Ok-clause-on : goal.returns-in-Ok-clause-on
returns-in-Ok-clause-on g c = λ on plans seen hold searched.
    let casts = g.O.Opening.casts c.args.opening.now in
    let stood : (at : At) × StandsAt casts plans at (play_view g.K.Actor.state c.in-Ok.play) × IsQuiescent plans at × HasMade c.args.path.now at.history =
    subst (λ l. HoldPlans l plans c.args.setups.now → (at : At) × StandsAt l plans at (play_view g.K.Actor.state c.in-Ok.play)
    × IsQuiescent plans at × HasMade c.args.path.now at.history)
    c.in_ok-casts.ensures.casts (c.in-Ok.ensures plans) hold in
    c.look.ensures.on on casts plans stood.0 seen stood.1 stood.2 stood.3 searched

pub returns-in-Ok-clause-keeps : goal.returns-in-Ok-clause-keeps
returns-in-Ok-clause-keeps g c =
    let casts = g.O.Opening.casts c.args.opening.now in
    ok_weaker _ _ c.look.result
    (λ looked keeps first plans hold. let stood : (at : At) × StandsAt casts plans at (play_view g.K.Actor.state c.in-Ok.play) × IsQuiescent plans at ×
    HasMade c.args.path.now at.history =
    subst (λ l. HoldPlans l plans c.args.setups.now → (at : At) × StandsAt l plans at (play_view g.K.Actor.state c.in-Ok.play) × IsQuiescent plans at ×
    HasMade c.args.path.now at.history) c.in_ok-casts.ensures.casts (c.in-Ok.ensures plans) hold in keeps first casts plans stood.0 stood.1)
    c.look.ensures.keeps
