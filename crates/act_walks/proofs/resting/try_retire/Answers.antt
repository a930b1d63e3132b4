use Rattle.act_walks.proofs.Common.{sym, ◌∙◌, ap, Vec, Event, Retire, world_view, IsToldRetired}
use Rattle.act_walks.proofs.Rested.{rests_same, refused_same, retire_rests}
use Rattle.act_walks.proofs.resting.try_retire.Goals as goal

pub returns-in_default-clause-rests : goal.returns-in_default-clause-rests
returns-in_default-clause-rests g c =
    let same = rw c.in_default.is at c.in_ok-outcome.ensures.refused in
    rests_same (IsToldRetired c.args.a) (ap (world_view g.K.Actor.state) same.0) (ap (λ (v : Vec Event). v.items) same.1)

pub returns-in_default-clause-none : goal.returns-in_default-clause-none
returns-in_default-clause-none g c = λ _.
    let same = rw c.in_default.is at c.in_ok-outcome.ensures.refused in
    refused_same (Retire c.args.a) c.in_default.field-0 (ap (world_view g.K.Actor.state) same.0) (ap (λ (v : Vec Event). v.items) same.1)
    (λ casts h behind. let tried = c.in_ok-outcome.ensures.behind casts h behind in (sym c.in_default.is ∙ tried.0, tried.1))

pub returns-clause-rests : goal.returns-clause-rests
returns-clause-rests g c =
    let seen = world_view g.K.Actor.state in let kept = rw c.in-Ok.is at c.in_ok-outcome.ensures.kept in
    retire_rests c.args.a c.in-Ok.field-0 (seen c.args.world.now) (seen c.try_event.new.world) c.args.events.now.items
    (λ casts h behind. let tried = c.in_ok-outcome.ensures.behind casts h behind in (sym c.in-Ok.is ∙ tried.0, tried.1))
    kept
