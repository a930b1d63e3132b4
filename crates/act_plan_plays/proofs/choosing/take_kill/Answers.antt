use Rattle.act_plan_plays.proofs.Heard.{kill_comes}
use Rattle.act_plan_plays.proofs.choosing.take_kill.Goals as goal

pub returns : goal.returns
returns g c = λ casts plans at stands.
    let done = c.in_ok-do_event.ensures.behind casts at.history stands.behind in kill_comes casts plans c.args.a at stands done.0 done.2
