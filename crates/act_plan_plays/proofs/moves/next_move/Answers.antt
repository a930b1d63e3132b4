use Rattle.act_plan_plays.proofs.Common.{◌≡◌, ◌<◌, ◌&&◌, not, refl, sym, subst, None, get_or, arith, find, slice_get, is_known_dead, shows_dead, world_view}
use Rattle.act_plan_plays.proofs.Common.{Refines, IsHere}
use Rattle.act_plan_plays.proofs.Done.{done_of}
use Rattle.act_plan_plays.proofs.Moving.{done_is, next_is}
use Rattle.act_plan_plays.proofs.moves.next_move.Goals as goal

pub returns : goal.returns
returns g c = λ none casts plans at stands part.
    let own = c.args.setup.now.caller in let n = get_or c.args.played.now.done c.number.result 0 in let valid = c.number.ensures.valid in
    let below : own < 17 = omega arith in
    let done = done_is at c.args.played.now.done c.number.ensures.value below stands.steps in
    let next = next_is plans own at {next = slice_get c.args.setup.now.plan.items n} part.plan done refl in
    let refines = subst (λ h. Refines h (world_view g.K.Actor.state c.args.played.now.world)) (sym stands.behind.is) stands.behind.reached in
    let owned = c.in-Some.ensures.reached casts c.args.played.now.events.items stands.behind.reached in
    let here : IsHere at.history own c.in-Some.owner.now =
    subst (λ h. IsHere h own c.in-Some.owner.now) (sym stands.behind.is) (record { caller = owned.0; is = owned.1 }) in
    done_of casts plans at own stands refines here next part.actors
    c.in_default-own_move.ensures (sym c.in_default-ready.ensures)
    (subst (λ l. find (λ a. shows_dead (world_view g.K.Actor.state c.args.played.now.world) a && not (is_known_dead c.in-Some.owner.now a))
    l ≡ None) c.as_slice.ensures.value c.in_default-first_untold.ensures)
