use Rattle.act_owner.proofs.Common.{◌≡◌, count_by, map, row_waits_for, rows_after_death, KnowsAnswers}
use Rattle.act_owner.proofs.owner.answer_death.Given as goal

-- the death still leaves the same, and the resolver was told of these
abbrev pub invariant-loop-future : goal.invariant-loop-future
invariant-loop-future l = record {
  rows : rows_after_death l.a l.table.rows ≡ rows_after_death l.a l.initial.table.rows;
  told : KnowsAnswers l.resolver.calls l.table.rows;
  futures : map (λ call. call.futures) l.resolver.calls ≡ map (λ call. call.futures) l.initial.resolver.calls;
  sent : map (λ call. call.sent) l.resolver.calls ≡ map (λ call. call.sent) l.initial.resolver.calls;
}

abbrev pub decreases-loop-future : goal.decreases-loop-future
decreases-loop-future l = count_by (row_waits_for l.a) l.table.rows
