use Rattle.act_console.proofs.Common.{string_bytes, outcome_line}
use Rattle.act_console.proofs.Placed.{goes_on_at, is_done}
use Rattle.act_console.proofs.report.push_outcomes.Goals as goal

pub loop-place-preserved : goal.loop-place-preserved
loop-place-preserved c = goes_on_at outcome_line (string_bytes c.loop-place.text) _ c.args.outcomes.now c.loop-place-test.true
    c.index-outcomes-place.is c.in_ok-push_outcome.ensures c.loop-place.invariant

pub returns : goal.returns
returns c = is_done outcome_line (string_bytes c.loop-place.text) _ c.args.outcomes.now c.loop-place.place c.loop-place-test.false c.loop-place.invariant
