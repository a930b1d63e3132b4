use Rattle.act_plan_plays.proofs.Common.{sym, ◌∙◌, ap, subst, Vec, Event, outcome_of, after, world_view, IsBehind}
use Rattle.act_plan_plays.proofs.Events.{behind_more, behind_same}
use Rattle.act_plan_plays.proofs.played.try_event.Goals as goal
use Rattle.act_plan_plays.proofs.played.try_event.Goals.{then-is_ok+in_ok-push, else-is_ok}

pub returns-clause-behind : goal.returns-clause-behind
returns-clause-behind g c = λ casts h behind.
    let no = sym c.is_memory.ensures ∙ c.if-is_memory.false in
    let told = c.apply-outcome.ensures.outcome no casts c.args.events.now.items behind.reached in
    let reached = c.apply-outcome.ensures.reached no casts c.args.events.now.items behind.reached in (
      told ∙ ap (λ k. outcome_of k c.args.event) (sym behind.is),
      elim c.if-is_ok.branch [
        | then-is_ok+in_ok-push w ↦
            subst (λ l. IsBehind casts (after h c.args.event) (world_view g.K.Actor.state c.apply-outcome.new.self) l)
            (sym (ap (λ (v : Vec Event). v.items) w.events-is ∙ w.in_ok-push.ensures.items))
            (behind_more casts h c.args.event (world_view g.K.Actor.state c.apply-outcome.new.self) behind told reached
            (sym c.is_ok.ensures.value ∙ w.if-is_ok.true))
        | else-is_ok w ↦
            subst (λ l. IsBehind casts (after h c.args.event) (world_view g.K.Actor.state c.apply-outcome.new.self) l)
            (sym (ap (λ (v : Vec Event). v.items) w.events-is))
            (behind_same casts h c.args.event (world_view g.K.Actor.state c.apply-outcome.new.self) c.apply-outcome.result behind told reached
            (sym c.is_ok.ensures.value ∙ w.if-is_ok.false))
      ],
    )
