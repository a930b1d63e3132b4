use Rattle.act_walks.proofs.Paced.{paced_rests}
use Rattle.act_walks.proofs.Rested.{rests_trans, told_false, all_retired}
use Rattle.act_walks.proofs.resting.retire_all.Goals as goal

pub loop-preserved : goal.loop-preserved
loop-preserved g c = rests_trans c.loop.invariant c.in_ok-retire_round.ensures.rests

pub returns-then-not-branch-clause-rests : goal.returns-then-not-branch-clause-rests
returns-then-not-branch-clause-rests g c = rests_trans c.loop.invariant c.in_ok-retire_round.ensures.rests

pub returns-then-not-branch-clause-paced : goal.returns-then-not-branch-clause-paced
returns-then-not-branch-clause-paced g c = λ casts bound done all paced.
    let whole = rests_trans c.loop.invariant c.in_ok-retire_round.ensures.rests in
    paced_rests casts bound done c.retire_round.new.events.items whole.only all paced

pub returns-then-not-branch-clause-retired : goal.returns-then-not-branch-clause-retired
returns-then-not-branch-clause-retired g c = λ casts bound told some fits named behind rest.
    let whole = rests_trans c.loop.invariant c.in_ok-retire_round.ensures.rests in
    let settled = c.in_ok-retire_round.ensures.settled (told_false c.if-not-branch.true) in
    all_retired casts bound told some fits named
    (whole.behind casts behind) (whole.rests casts told fits behind rest) settled
