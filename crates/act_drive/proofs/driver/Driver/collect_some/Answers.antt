use Rattle.act_drive.proofs.Drivers.{only_waits_trans}
use Rattle.act_drive.proofs.driver.Driver.collect_some.Goals as goal

pub loop-heard-preserved : goal.loop-heard-preserved
loop-heard-preserved g c = only_waits_trans c.loop-heard.invariant c.collect.ensures.only_waits

pub returns-then-not-collect : goal.returns-then-not-collect
returns-then-not-collect g c = record { only_waits = only_waits_trans c.loop-heard.invariant c.collect.ensures.only_waits }
