use Rattle.act_orders.proofs.Common.{◌<◌, ◌+◌, arith, sym, DONE}
use Rattle.act_orders.proofs.Causing.{happened_within, few_slots, numbers_apart}
use Rattle.act_orders.proofs.Nexting.{circle_is}
use Rattle.act_orders.proofs.Steps.{last_of, enter_step, pass_step, finish_step}
use Rattle.act_orders.proofs.search.Search.step.Goals as goal

pub mark-mark-requires-clause-few : goal.mark-mark-requires-clause-few
mark-mark-requires-clause-few c =
    let w = happened_within c.args.top c.requires.whole (last_of c.requires.standing c.requires.last).node in omega (arith, w, c.requires.whole.few)

pub mark-mark-requires-clause-room : goal.mark-mark-requires-clause-room
mark-mark-requires-clause-room c = (last_of c.requires.standing c.requires.last).room

pub next-requires-clause-happened : goal.next-requires-clause-happened
next-requires-clause-happened c = (last_of c.requires.standing c.requires.last).node

pub next-requires-clause-low : goal.next-requires-clause-low
next-requires-clause-low c = omega (arith, (last_of c.requires.standing c.requires.last).low, c.mark-mark.ensures)

pub finish-requires-clause-few : goal.finish-requires-clause-few
finish-requires-clause-few c =
    let w = happened_within c.args.top c.requires.whole (last_of c.requires.standing c.requires.last).node in omega (arith, w, c.requires.whole.few)

pub pass-requires-clause-few : goal.pass-requires-clause-few
pass-requires-clause-few c =
    let w = happened_within c.args.top c.requires.whole (last_of c.requires.standing c.requires.last).node in omega (arith, w, c.requires.whole.few)

pub pass-requires-clause-room : goal.pass-requires-clause-room
pass-requires-clause-room c = (last_of c.requires.standing c.requires.last).room

pub enter-requires-clause-few : goal.enter-requires-clause-few
enter-requires-clause-few c = let w = happened_within c.in-Enter.cause c.requires.whole c.in-Enter.ensures.1 in omega (arith, w, c.requires.whole.few)

pub circle-requires-clause-few : goal.circle-requires-clause-few
circle-requires-clause-few c h on =
    let node = (c.requires.standing.begun h on).0 in
    let w = happened_within h c.requires.whole node in omega (arith, w, c.requires.whole.few)

pub returns-in_ok-finish-in-Finish-clause-steps : goal.returns-in_ok-finish-in-Finish-clause-steps
returns-in_ok-finish-in-Finish-clause-steps c =
    let done = c.in_ok-finish-in-Finish.ensures in
    rw (done.marks, done.path, done.order)
    (finish_step numbers_apart c.requires.standing c.requires.last (sym c.mark-mark.ensures) c.in-Finish.ensures)

pub returns-in-Pass-clause-steps : goal.returns-in-Pass-clause-steps
returns-in-Pass-clause-steps c =
    let told = c.args.told.now in let top = c.args.top in let m = c.mark-mark.result in let done = c.pass.ensures in
    let l = last_of c.requires.standing c.requires.last in
    let few = few_slots told c.args.places.now top c.requires.whole (happened_within top c.requires.whole l.node) in
    let big : m + 1 < DONE = omega (arith, few, c.in-Pass.ensures.0) in
    rw (done.marks, done.path, done.order)
    (pass_step numbers_apart m c.requires.standing c.requires.last (sym c.mark-mark.ensures) big c.in-Pass.ensures.1)

pub returns-in_ok-enter-in-Enter-clause-steps : goal.returns-in_ok-enter-in-Enter-clause-steps
returns-in_ok-enter-in-Enter-clause-steps c =
    let is = c.in-Enter.ensures in let done = c.in_ok-enter-in-Enter.ensures in
    rw (done.marks, done.path, done.order) (enter_step numbers_apart c.requires.standing (omega arith) is.1 is.2 c.requires.last is.0)

pub returns-in_ok-circle-in-Close-clause-circle : goal.returns-in_ok-circle-in-Close-clause-circle
returns-in_ok-circle-in-Close-clause-circle c =
    let is = c.in-Close.ensures in let r = c.in_ok-circle-in-Close.ensures in
    circle_is DONE c.args.top r.0 c.requires.places c.requires.whole
    c.requires.standing c.requires.last is.0 is.1 r.1 r.2
