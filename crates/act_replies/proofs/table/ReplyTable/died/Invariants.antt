use Rattle.act_replies.proofs.Common.{◌≡◌, count_by, row_waits_for, rows_after_death}
use Rattle.act_replies.proofs.table.ReplyTable.died.Given as goal

-- the death still leaves the same
abbrev pub invariant-loop-future : goal.invariant-loop-future
invariant-loop-future l = record {
  rows : rows_after_death l.actor l.self.rows ≡ rows_after_death l.actor l.initial.self.rows;
  spare : l.self.spare ≡ l.initial.self.spare;
}

abbrev pub decreases-loop-future : goal.decreases-loop-future
decreases-loop-future l = count_by (row_waits_for l.actor) l.self.rows
