use Rattle.act_plan_plays.proofs.Common.{◌<◌, ◌≤◌, length, get_or, arith}
use Rattle.act_plan_plays.proofs.Moving.{done_is, next_none}
use Rattle.act_plan_plays.proofs.Ends.{not_through}
use Rattle.act_plan_plays.proofs.ending.is_through.Goals as goal

pub returns-then-done-len : goal.returns-then-done-len
returns-then-done-len g c = λ casts plans at stands part.
    let own = c.args.setup.now.caller in let valid = c.number.ensures.valid in let below : own < 17 = omega arith in
    let done = done_is at c.args.played.now.done c.number.ensures.value below stands.steps in
    let long = c.len.ensures in let test = c.if-done-len.true in
    let left : get_or c.args.played.now.done c.number.result 0 < length c.args.setup.now.plan.items = omega arith in (
      (λ e. cc),
      λ through. absurd (not_through plans own at part.plan done left through),
    )

pub returns : goal.returns
returns g c = λ casts plans at stands part.
    let own = c.args.setup.now.caller in let valid = c.number.ensures.valid in let below : own < 17 = omega arith in
    let done = done_is at c.args.played.now.done c.number.ensures.value below stands.steps in
    let long = c.len.ensures in let test = c.if-done-len.false in
    let past : length c.args.setup.now.plan.items ≤ get_or c.args.played.now.done c.number.result 0 = omega arith in
    let tells = c.is_answered.ensures casts at.history c.args.played.now.events.items stands.behind in (
      (λ e. (next_none plans own at part.plan done past, tells.0 e)),
      λ through. tells.1 through.1,
    )
