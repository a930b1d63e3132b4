use Rattle.act_owner.proofs.Common.{◌≡◌, ◌∙◌, Err, count_by, sym, ap, subst, arith, ActorDied, row_waits_for, rows_after_death, death-after_keep}
use Rattle.act_owner.proofs.Common.{count-after_keep, death-none, KnowsAnswers}
use Rattle.act_owner.proofs.Deaths.{waits_within, told_step, futures_step, sent_step}
use Rattle.act_owner.proofs.owner.answer_death.Goals as goal

pub loop-future-smaller : goal.loop-future-smaller
loop-future-smaller c =
    omega (
      arith,
      count-after_keep c.args.a c.in-Some.future (Err ActorDied) c.loop-future.table.rows c.in-Some.ensures.waits,
      ap (count_by (row_waits_for c.args.a)) c.keep.ensures.rows,
    )

pub told-requires : goal.told-requires
told-requires c =
    waits_within c.args.a c.in-Some.future
    (Err ActorDied) c.loop-future.table.rows c.loop-future.resolver.calls c.in-Some.ensures.waits c.loop-future.invariant.told

pub loop-future-preserved : goal.loop-future-preserved
loop-future-preserved c =
    let rows = c.loop-future.table.rows in let k = c.in-Some.future in
    record {
      rows = ap (rows_after_death c.args.a) c.keep.ensures.rows ∙ death-after_keep c.args.a k rows c.in-Some.ensures.waits ∙ c.loop-future.invariant.rows;
      told = told_step c.args.a k
          (Err ActorDied) rows c.loop-future.resolver.calls c.in-Some.ensures.waits c.loop-future.invariant.told c.keep.ensures.rows c.told.ensures.calls;
      futures = futures_step k c.loop-future.resolver.calls c.told.ensures.calls ∙ c.loop-future.invariant.futures;
      sent = sent_step k c.loop-future.resolver.calls c.told.ensures.calls ∙ c.loop-future.invariant.sent;
    }

pub returns-clause-rows : goal.returns-clause-rows
returns-clause-rows c = sym (death-none c.args.a c.loop-future.table.rows c.in_default.ensures.none) ∙ c.loop-future.invariant.rows

pub returns-clause-told : goal.returns-clause-told
returns-clause-told c =
    let last : c.loop-future.table.rows ≡ rows_after_death c.args.a c.args.table.now.rows =
    sym (death-none c.args.a c.loop-future.table.rows c.in_default.ensures.none) ∙ c.loop-future.invariant.rows in
    subst (KnowsAnswers c.loop-future.resolver.calls) last c.loop-future.invariant.told
