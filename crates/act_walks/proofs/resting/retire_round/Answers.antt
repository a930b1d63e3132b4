use Rattle.act_walks.proofs.Common.{◌≡◌, ◌∙◌, length, get_or, ap, sym, subst, arith, Vec, Event, world_view}
use Rattle.act_walks.proofs.Rested.{rests_trans, rests_for, told_false, tells_none, says_retired, settled_more, settled_same, settled_all}
use Rattle.act_lists.proofs.Lists.{item_at}
use Rattle.act_walks.proofs.resting.retire_round.Goals as goal
use Rattle.act_walks.proofs.resting.retire_round.Goals.{then-branch, else-branch}

pub loop-number-preserved : goal.loop-number-preserved
loop-number-preserved g c =
    let actors = c.args.end.now.actors.items in let n = c.loop-number.number in let one = c.actor-item.result in
    let here : one ≡ get_or actors n one = subst (λ l. one ≡ get_or l n one) c.deref-actor-items.ensures.value c.actor-item.is in
    let test = c.loop-number-test.true in let long = ap (λ l. length l) c.deref-actor-items.ensures.value in
    let at = item_at actors n one (omega arith) here in (
      rests_trans c.loop-number.invariant.0 (rests_for (λ told fits. says_retired n one told at fits) c.in_ok-retire_told.ensures.rests),
      λ none. elim c.if-branch.branch [
        | then-branch w ↦ absurd (let yes = w.moved-is in cc)
        | else-branch w ↦
            let before = c.loop-number.invariant.1 (sym w.moved-is ∙ none) in let stayed = told_false w.if-branch.false in
            let now = c.in_ok-retire_told.ensures.still stayed in
            let settled = settled_same n actors (ap (world_view g.K.Actor.state) now.0) (ap (λ (v : Vec Event). v.items) now.1) before.2 in (
              now.0 ∙ before.0,
              now.1 ∙ before.1,
              settled_more n actors one (world_view g.K.Actor.state c.retire_told.new.world) c.retire_told.new.events.items here settled
                  (c.in_ok-retire_told.ensures.settled stayed),
            )
      ],
    )

pub returns-clause-settled : goal.returns-clause-settled
returns-clause-settled g c = λ none.
    let test = c.loop-number-test.false in let long = ap (λ l. length l) c.deref-actor-items.ensures.value in
    settled_all c.loop-number.number c.args.end.now.actors.items (world_view g.K.Actor.state c.loop-number.world) c.loop-number.events.items (omega arith)
    (c.loop-number.invariant.1 (tells_none c.loop-number.moved none)).2
