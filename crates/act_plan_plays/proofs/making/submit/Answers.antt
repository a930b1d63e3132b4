use Rattle.act_plan_plays.proofs.Common.{subst, Submit, Parts, parts_of, HasDone}
use Rattle.act_plan_plays.proofs.making.submit.Goals as goal

pub returns-clause-does : goal.returns-clause-does
returns-clause-does g c = λ casts h behind asked.
    let done = c.in_ok-do_event.ensures.behind casts h behind in
    let new : Parts = parts_of g.K.Actor.state
    (record { world = c.do_event.new.world; events = c.do_event.new.events; done = c.args.played.now.done; asked = c.args.played.now.asked }) in
    subst (λ args. HasDone casts h c.args.c (Submit c.args.a c.args.method args) new) c.in_ok-args.ensures
    (record { may = done.0; behind = done.2; asked = asked })
