use Rattle.act_plan_plays.proofs.Common.{◌∙◌, sym, Tell, add_event}
use Rattle.act_plan_plays.proofs.Moving.{told_place, tell_comes}
use Rattle.act_plan_plays.proofs.making.tell.Goals as goal

pub returns : goal.returns
returns g c = λ casts plans at stands part.
    let told = c.in_ok-told.ensures.behind casts at.history stands.behind in
    let next = c.in_ok-do_event.ensures.behind casts (add_event at.history (Tell c.args.a c.args.setup.now.caller)) told.2 in
    tell_comes casts plans c.args.setup.now.caller c.args.a c.in-Told.j at stands
    told.0 (told_place (sym c.in-Told.is ∙ told.1)) next.0 next.2
