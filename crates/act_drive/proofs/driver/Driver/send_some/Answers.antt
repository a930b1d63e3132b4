use Rattle.act_drive.proofs.Drivers.{only_waits_trans}
use Rattle.act_drive.proofs.driver.Driver.send_some.Goals as goal

pub loop-sent-preserved : goal.loop-sent-preserved
loop-sent-preserved g c = only_waits_trans c.loop-sent.invariant c.in_ok-send_next.ensures.only_waits

pub returns-in_err-send_next : goal.returns-in_err-send_next
returns-in_err-send_next g c = record { only_waits = only_waits_trans c.loop-sent.invariant c.in_err-send_next.ensures.only_waits }

pub returns-then-not-branch : goal.returns-then-not-branch
returns-then-not-branch g c = record { only_waits = only_waits_trans c.loop-sent.invariant c.in_ok-send_next.ensures.only_waits }

pub returns : goal.returns
returns g c = record { only_waits = c.loop-sent.invariant }
