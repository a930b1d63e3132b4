use Rattle.act_replies.proofs.Common.{◌∙◌, Err, count_by, sym, ap, arith, ActorDied, row_waits_for, rows_after_death}
use Rattle.act_replies.proofs.Deaths.{death-after_keep, count-after_keep, death-none}
use Rattle.act_replies.proofs.table.ReplyTable.died.Goals as goal

pub loop-future-smaller : goal.loop-future-smaller
loop-future-smaller c =
    omega (
      arith,
      count-after_keep c.args.actor c.in-Some.future (Err ActorDied) c.loop-future.self.rows c.in-Some.ensures.waits,
      ap (count_by (row_waits_for c.args.actor)) c.keep.ensures.rows,
    )

pub loop-future-preserved : goal.loop-future-preserved
loop-future-preserved c = record {
  rows = ap (rows_after_death c.args.actor) c.keep.ensures.rows ∙
      death-after_keep c.args.actor c.in-Some.future c.loop-future.self.rows c.in-Some.ensures.waits ∙ c.loop-future.invariant.rows;
  spare = c.keep.ensures.spare ∙ c.loop-future.invariant.spare;
}

pub returns-clause-rows : goal.returns-clause-rows
returns-clause-rows c = sym (death-none c.args.actor c.loop-future.self.rows c.in_default.ensures.none) ∙ c.loop-future.invariant.rows
