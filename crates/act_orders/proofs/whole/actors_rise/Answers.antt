use Rattle.act_orders.proofs.Common.{rules, answers_always, Run}
use Rattle.act_orders.proofs.Wholes.{rise_told_by}
use Rattle.act_orders.proofs.whole.actors_rise.Goals as goal

pub returns : goal.returns
returns c =
    let nothing : Run = record { actor = 0; call = 0 } in
    rw (← c.as_slice.ensures)
    (rise_told_by (λ (run : Run). run.actor) c.as_slice.result.now nothing c.is_sorted_by_key.result
    (c.is_sorted_by_key.ensures.cases (λ (run : Run). run.actor) (answers_always _ _ _ (λ f a r g h. search rules))))
