use Rattle.act_drive.proofs.Drivers.{only_waits_trans}
use Rattle.act_drive.proofs.driver.Driver.wait_for_room.Goals as goal

pub loop-preserved : goal.loop-preserved
loop-preserved g c = only_waits_trans c.loop.invariant c.in_ok-wait_turn.ensures.only_waits

pub returns-in_err-wait_turn-clause-only_waits : goal.returns-in_err-wait_turn-clause-only_waits
returns-in_err-wait_turn-clause-only_waits g c = only_waits_trans c.loop.invariant c.in_err-wait_turn.ensures.only_waits

pub returns-then-has_room-clause-only_waits : goal.returns-then-has_room-clause-only_waits
returns-then-has_room-clause-only_waits g c = c.loop.invariant

pub returns-then-has_room-clause-room : goal.returns-then-has_room-clause-room
returns-then-has_room-clause-room g c = c.has_room.ensures.room c.if-has_room.true
