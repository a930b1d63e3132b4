use Rattle.act_plan_plays.proofs.Common.{◌≡◌, ◌<◌, ◌∙◌, sym, ap, subst, Some, get_or, arith, slice_get, world_view, Refines, IsOwnerOf, read_is}
use Rattle.act_plan_plays.proofs.Seen.{left_out}
use Rattle.act_plan_plays.proofs.Moving.{done_is, next_is, skip_comes}
use Rattle.act_plan_plays.proofs.making.skip_step.Goals as goal

pub returns : goal.returns
returns g c = λ casts plans at stands part.
    let own = c.args.setup.now.caller in let n = get_or c.args.played.now.done c.number-slot.result 0 in let valid = c.number-slot.ensures.valid in
    let below : own < 17 = omega arith in
    let done = done_is at c.args.played.now.done c.number-slot.ensures.value below stands.steps in
    let there : slice_get c.args.setup.now.plan.items n ≡ Some c.in-Some.step.now =
    read_is n c.deref.ensures.value c.in-Some.ensures.lookup.0 c.in-Some.ensures.lookup.1 in
    let next = next_is plans own at part.plan done there in
    let refines = subst (λ h. Refines h (world_view g.K.Actor.state c.args.played.now.world)) (sym stands.behind.is) stands.behind.reached in
    let is : IsOwnerOf at.history own c.in-Some-owner.owner.now =
    subst (λ h. IsOwnerOf h own c.in-Some-owner.owner.now) (sym stands.behind.is)
    (c.in-Some-owner.ensures.reached casts c.args.played.now.events.items stands.behind.reached).1 in
    let out = left_out at.history own c.in-Some.step.now refines is
    (sym c.is_left_out.ensures ∙ c.if-not-is_left_out.false) in
    skip_comes casts plans own out.0 at n below stands (next ∙ ap (λ s. Some s) out.1) out.2 out.3 c.number-slot.ensures.value done
