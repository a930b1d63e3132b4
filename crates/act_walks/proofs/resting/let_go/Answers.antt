use Rattle.act_walks.proofs.Common.{◌∙◌, arith}
use Rattle.act_walks.proofs.Rested.{rests_trans, told_false, not_first}
use Rattle.act_walks.proofs.resting.let_go.Goals as goal

pub returns-then-not-branch-clause-still : goal.returns-then-not-branch-clause-still
returns-then-not-branch-clause-still g c = λ none.
    let before = c.loop-count.invariant.1 (not_first c.loop-count.count none) in
    let now = c.in_ok-release.ensures.still (told_false c.if-not-branch.true) in (now.0 ∙ before.0, now.1 ∙ before.1)

pub returns-then-not-branch-clause-rests : goal.returns-then-not-branch-clause-rests
returns-then-not-branch-clause-rests g c = rests_trans c.loop-count.invariant.0 c.in_ok-release.ensures.rests

pub returns-then-not-branch-clause-none : goal.returns-then-not-branch-clause-none
returns-then-not-branch-clause-none g c = c.in_ok-release.ensures.none (told_false c.if-not-branch.true)

pub loop-count-preserved : goal.loop-count-preserved
loop-count-preserved g c = (rests_trans c.loop-count.invariant.0 c.in_ok-release.ensures.rests, λ none. absurd (omega arith))
