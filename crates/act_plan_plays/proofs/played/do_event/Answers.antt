use Rattle.act_plan_plays.proofs.Common.{◌∙◌, sym, subst, world_view, IsBehind}
use Rattle.act_plan_plays.proofs.Events.{done_of}
use Rattle.act_plan_plays.proofs.played.do_event.Goals as goal

pub returns-in-Ok-clause-behind : goal.returns-in-Ok-clause-behind
returns-in-Ok-clause-behind g c = λ casts h behind.
    let tried = c.in_ok-outcome.ensures.behind casts h behind in let done = done_of h c.args.event (sym c.in-Ok.is ∙ tried.0) in
    (done.0, done.1, subst (λ k. IsBehind casts k (world_view g.K.Actor.state c.try_event.new.world) c.try_event.new.events.items) done.2 tried.1)
