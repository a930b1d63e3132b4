use Rattle.act_orders.proofs.Common.{take, Finds, Come}
use Rattle.act_orders.proofs.ends.note_last.Given as goal

abbrev pub invariant-loop-call : goal.invariant-loop-call
invariant-loop-call l = Finds l.told (Come l.told (take l.call-index l.told.waits)) l.initial.faults l.faults
