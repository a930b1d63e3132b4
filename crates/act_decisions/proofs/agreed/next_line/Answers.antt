use Rattle.act_decisions.proofs.Common.{sym, ◌∙◌}
use Rattle.act_decisions.proofs.Agreeing.{skipped_line, told_line_first}
use Rattle.act_decisions.proofs.agreed.next_line.Goals as goal

pub returns-then-not-is_skipped : goal.returns-then-not-is_skipped
returns-then-not-is_skipped c =
    c.loop-left.invariant
    ∙ told_line_first c.loop-left.left.now c.split_line.result.0.now c.split_line.result.1.now c.split_line.ensures.of_one_line c.split_line.ensures.whole
    (sym c.is_skipped.ensures ∙ c.if-not-is_skipped.true)

pub loop-left-preserved : goal.loop-left-preserved
loop-left-preserved c =
    c.loop-left.invariant
    ∙ skipped_line c.loop-left.left.now c.split_line.result.0.now c.split_line.result.1.now c.split_line.ensures.of_one_line c.split_line.ensures.whole
    (sym c.is_skipped.ensures ∙ c.if-not-is_skipped.false)
