use Rattle.act_plan_plays.proofs.Common.{sym, ◌∙◌, add_event}
use Rattle.act_rules.specs.declared.event.Event.TheVariants.{Run}
use Rattle.act_plan_plays.proofs.Heard.{run_comes}
use Rattle.act_plan_plays.proofs.choosing.run.Goals as goal

pub returns : goal.returns
returns g c = λ casts plans at stands.
    let told = c.in_ok-told.ensures.behind casts at.history stands.behind in
    let next = c.in_ok-do_event.ensures.behind casts (add_event at.history (Run c.args.a c.args.c)) told.2 in
    run_comes casts plans c.args.a c.args.c c.in-Ran.j at stands
    told.0 (sym c.in-Ran.is ∙ told.1) next.0 next.2
