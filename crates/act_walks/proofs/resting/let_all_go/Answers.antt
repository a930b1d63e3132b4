use Rattle.act_walks.proofs.Common.{◌<◌, ◌∙◌, length, ap, sym, Vec, Event, world_view}
use Rattle.act_walks.proofs.Rested.{rests_trans, told_false, hold_more, hold_same}
use Rattle.act_walks.proofs.resting.let_all_go.Goals as goal
use Rattle.act_walks.proofs.resting.let_all_go.Goals.{then-branch, else-branch}

pub loop-c-preserved : goal.loop-c-preserved
loop-c-preserved g c = (
  rests_trans c.loop-c.invariant.0 c.in_ok-let_go.ensures.rests,
  λ none. elim c.if-branch.branch [
    | then-branch w ↦ absurd (let yes = w.moved-is in cc)
    | else-branch w ↦
        let before = c.loop-c.invariant.1 (sym w.moved-is ∙ none) in let now = c.in_ok-let_go.ensures.still (told_false w.if-branch.false) in
        let within : c.loop-c.c-index < length c.args.callers.now = c.loop-c-test.true in
        let held = hold_same _ c.args.a (ap (world_view g.K.Actor.state) now.0) (ap (λ (v : Vec Event). v.items) now.1) before.2 in (
          now.0 ∙ before.0,
          now.1 ∙ before.1,
          hold_more c.args.callers.now c.args.a (world_view g.K.Actor.state c.let_go.new.world) c.let_go.new.events.items
              within c.c-item.is held c.in_ok-let_go.ensures.none,
        )
  ],
)
