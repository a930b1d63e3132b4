use Rattle.act_drive.proofs.Drivers.{only_waits_trans}
use Rattle.act_drive.proofs.driver.Driver.finish.Goals as goal

pub loop-preserved : goal.loop-preserved
loop-preserved g c = only_waits_trans c.loop.invariant c.in_ok-wait_turn.ensures.only_waits

pub returns-then-is_none-clause-only_waits : goal.returns-then-is_none-clause-only_waits
returns-then-is_none-clause-only_waits g c = c.loop.invariant

pub returns-in_err-wait_turn-clause-only_waits : goal.returns-in_err-wait_turn-clause-only_waits
returns-in_err-wait_turn-clause-only_waits g c = only_waits_trans c.loop.invariant c.in_err-wait_turn.ensures.only_waits
