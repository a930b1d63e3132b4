use Rattle.act_walks.proofs.Common.{subst, Parts, parts_of, Does}
use Rattle.act_rules.specs.declared.event.Event.TheVariants as event
use Rattle.act_walks.proofs.Deaths.{hears_now}
use Rattle.act_walks.proofs.hearing.tell.Goals as goal

pub returns : goal.returns
returns g c =
    let old : Parts = parts_of g.K.Actor.state c.args.walk.now in let mid : Parts = parts_of g.K.Actor.state c.must_do.new.walk in
    let new : Parts = parts_of g.K.Actor.state c.must_do-2.new.walk in
    hears_now c.args.c c.args.a c.in-Told.j old mid new
    (subst (λ d. Does (event.Tell c.args.a c.args.c) old mid d) c.in-Told.is c.in_ok-j.ensures) c.in_ok-_told.ensures
