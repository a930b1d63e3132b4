use Rattle.act_walks.proofs.Common.{refl, sym, subst, Deliver, world_view, IsBehind, after_mail}
use Rattle.act_walks.proofs.Rested.{only_none, only_tried, no_mail}
use Rattle.act_walks.proofs.resting.bring_told.Goals as goal

pub returns-in_ok-_outcome-clause-only : goal.returns-in_ok-_outcome-clause-only
returns-in_ok-_outcome-clause-only g c =
    only_tried c.in_ok-_outcome._outcome (Deliver c.in-Mail.i) c.args.world.now c.try_event.new.world c.args.events.now c.try_event.new.events refl
    c.in_ok-_outcome.ensures.kept c.in_ok-_outcome.ensures.refused

pub returns-in_ok-_outcome-clause-behind : goal.returns-in_ok-_outcome-clause-behind
returns-in_ok-_outcome-clause-behind g c = λ casts h behind. subst (λ d. IsBehind casts (after_mail d h)
    (world_view g.K.Actor.state c.try_event.new.world) c.try_event.new.events.items) (sym c.in-Mail.is) (c.in_ok-_outcome.ensures.behind casts h behind).1

pub returns-in_default : goal.returns-in_default
returns-in_default g c = record {
  only = only_none c.args.events.now.items;
  behind = λ casts h behind. subst (λ k. IsBehind casts k (world_view g.K.Actor.state c.args.world.now) c.args.events.now.items)
      (sym (no_mail h c.args.told c.in_default.not-Mail)) behind;
}
