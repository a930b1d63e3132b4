use Rattle.act_code_ends.proofs.Common.{OnlyTakes}
use Rattle.act_code_ends.proofs.rehearsal.Rehearsal.await_room.Given as goal

abbrev pub invariant-loop : goal.invariant-loop
invariant-loop l = OnlyTakes l.initial.self l.self
