use Rattle.act_drive.proofs.Drivers.{only_waits_trans}
use Rattle.act_drive.proofs.driver.Driver.clear.Goals as goal

pub loop-preserved : goal.loop-preserved
loop-preserved g c = only_waits_trans (only_waits_trans c.loop.invariant c.send-has_sent.ensures.only_waits) c.collect-has_heard.ensures.only_waits
