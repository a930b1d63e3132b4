use Rattle.std.proofs.Common.{subst, OnOk}
use Rattle.act_orders.specs.Refused.{TellsFaults}
use Rattle.ray_orders.specs.Told.{TellsInOrder}
use Rattle.ray_orders.proofs.Telling.{out_of_order, told_in_order}
use Rattle.ray_orders.proofs.judging.judge_history.Goals as goal

pub returns-in-Ok : goal.returns-in-Ok
returns-in-Ok g c =
    let told = c.args.history.told in
    let old = g.W.Write.contents c.args.writer.now in let new = g.W.Write.contents c.write_in_order.new.writer in
    told_in_order c.args.command old new c.write_in_order.result
    (c.is_empty-is_renamed.ensures.0 c.if-is_renamed.false) (c.in-Ok.order.items, c.in-Ok.ensures.order)
    (subst (λ n. OnOk c.write_in_order.result (TellsInOrder n c.args.command old new)) c.len-count.ensures
    c.write_in_order.ensures.ok) c.write_in_order.ensures.stop

pub returns-in-Err-Faults : goal.returns-in-Err-Faults
returns-in-Err-Faults g c =
    let faults : TellsFaults c.args.history.told c.in-Err-Faults.field-0 = c.in-Err-Faults.ensures.faults in
    let each = subst (TellsFaults c.args.history.told) c.in-Err-Faults.field-0-is faults in (
      (λ _. out_of_order c.args.history.told c.in-Err-Faults.faults each.0 each.1),
      c.in_ok-write_reasons-in-Err-Faults.ensures.ok,
    )
