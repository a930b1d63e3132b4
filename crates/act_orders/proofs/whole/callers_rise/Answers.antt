use Rattle.act_orders.proofs.Common.{[], rules, answers_always, Call, Open}
use Rattle.act_orders.proofs.Wholes.{rise_told_by}
use Rattle.act_orders.proofs.whole.callers_rise.Goals as goal

pub returns : goal.returns
returns c =
    let nobody : Call = record { caller = 0; actor = 0; waits = []; takes = []; outcome = Open } in
    rw (← c.as_slice.ensures)
    (rise_told_by (λ (call : Call). call.caller) c.as_slice.result.now nobody c.is_sorted_by_key.result
    (c.is_sorted_by_key.ensures.cases (λ (call : Call). call.caller) (answers_always _ _ _ (λ f a r g h. search rules))))
