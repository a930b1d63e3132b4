use Rattle.act_histories.proofs.Common.{◌∙◌, sym}
use Rattle.act_histories.proofs.Cutting.{one_less}
use Rattle.act_histories.proofs.cut.cut_of.Goals as goal

pub loop-left-preserved : goal.loop-left-preserved
loop-left-preserved c =
    one_less c.split_line.result.0.now c.split_line.result.1.now c.split_line.ensures.of_one_line
    c.split_line.ensures.whole
    (sym c.tells_left.ensures ∙ c.if-not-tells_left.true) c.loop-left.invariant
