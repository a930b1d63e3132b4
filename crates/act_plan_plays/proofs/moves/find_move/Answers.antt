use Rattle.act_plan_plays.proofs.Common.{CallerSetup, IsPart, IsDone}
use Rattle.act_plan_plays.proofs.Loops.{no_move, each_more, each_whole}
use Rattle.act_plan_plays.proofs.Quiet.{quiet}
use Rattle.act_plan_plays.proofs.moves.find_move.Goals as goal

pub loop-place-preserved : goal.loop-place-preserved
loop-place-preserved g c = λ casts plans at stands. each_more (λ (setup : CallerSetup). IsPart casts plans setup →
    IsDone plans setup.caller at) c.args.setups.now c.loop-place-test.true c.index-setups-place.is (λ part. c.in_ok-next_move.ensures
    (no_move c.in_ok-next_move.field-0 c.is_some.ensures c.if-is_some.false) casts plans at stands part) (c.loop-place.invariant casts plans at stands)

pub returns-clause-quiescent : goal.returns-clause-quiescent
returns-clause-quiescent g c = λ none casts plans at stands hold.
    let all = each_whole (λ (setup : CallerSetup). IsPart casts plans setup → IsDone plans setup.caller at) c.args.setups.now c.loop-place-test.false
    (c.loop-place.invariant casts plans at stands) in
    quiet casts plans at stands hold (λ k d below. all k d below (hold.parts k d below))
