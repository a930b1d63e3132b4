use Rattle.act_plan_plays.proofs.Common.{◌≡◌, ◌<◌, Some, get_or, arith, slice_get, read_is}
use Rattle.act_plan_plays.proofs.Moving.{done_is, next_is, step_comes}
use Rattle.act_plan_plays.proofs.making.take_step.Goals as goal

pub returns : goal.returns
returns g c = λ casts plans at stands part.
    let own = c.args.setup.now.caller in let n = get_or c.args.played.now.done c.number-slot.result 0 in let valid = c.number-slot.ensures.valid in
    let below : own < 17 = omega arith in
    let done = done_is at c.args.played.now.done c.number-slot.ensures.value below stands.steps in
    let there : slice_get c.args.setup.now.plan.items n ≡ Some c.in-Some.step.now =
    read_is n c.deref.ensures.value c.in-Some.ensures.lookup.0 c.in-Some.ensures.lookup.1 in
    let next = next_is plans own at part.plan done there in
    step_comes casts plans own at n below stands next
    (c.in_ok-do_step.ensures.does casts at.history stands.behind stands.asked) c.in_ok-do_step.ensures.done c.number-slot.ensures.value done
