use Rattle.act_orders.proofs.Common.{take, call_of, Finds, TakesGood}
use Rattle.act_orders.proofs.ends.note_failed.Given as goal

abbrev pub invariant-loop-taken : goal.invariant-loop-taken
invariant-loop-taken l = Finds l.told (TakesGood l.told l.call (take l.taken-index (call_of l.told l.call).takes)) l.initial.faults l.faults
