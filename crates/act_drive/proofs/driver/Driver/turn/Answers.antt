use Rattle.act_drive.proofs.Drivers.{only_waits_trans}
use Rattle.act_drive.proofs.driver.Driver.turn.Goals as goal

pub returns-in_err-has_sent : goal.returns-in_err-has_sent
returns-in_err-has_sent g c = record { only_waits = c.in_err-has_sent.ensures.only_waits }

pub returns-then-has_sent : goal.returns-then-has_sent
returns-then-has_sent g c = record { only_waits = only_waits_trans c.in_ok-has_sent.ensures.only_waits c.collect_some-has_heard.ensures.only_waits }

pub returns-else-has_sent : goal.returns-else-has_sent
returns-else-has_sent g c = record { only_waits = only_waits_trans c.in_ok-has_sent.ensures.only_waits c.collect_some-has_heard.ensures.only_waits }
