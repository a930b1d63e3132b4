use Rattle.act_plan_plays.proofs.Common.{◌<◌, ◌≤◌, length, get_or, arith}
use Rattle.act_plan_plays.proofs.Moving.{done_is, next_none, close_comes}
use Rattle.act_plan_plays.proofs.making.close.Goals as goal

pub returns : goal.returns
returns g c = λ casts plans at stands part.
    let own = c.args.setup.now.caller in let valid = c.number.ensures.valid in let below : own < 17 = omega arith in
    let done = done_is at c.args.played.now.done c.number.ensures.value below stands.steps in
    let long = c.len.ensures in let test = c.if-done-len.false in
    let past : length c.args.setup.now.plan.items ≤ get_or c.args.played.now.done c.number.result 0 = omega arith in
    let posted = c.in_ok-post.ensures casts at.history stands.behind in
    close_comes casts plans own c.args.a at stands
    (next_none plans own at part.plan done past) posted.0 posted.1
