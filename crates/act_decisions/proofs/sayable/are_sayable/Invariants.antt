use Rattle.act_decisions.proofs.Common.{take, AreSayable}
use Rattle.act_decisions.proofs.sayable.are_sayable.Given as goal

-- the events so far can be written
abbrev pub invariant-loop-event : goal.invariant-loop-event
invariant-loop-event l = AreSayable (take l.event-index l.events)
