use Rattle.act_drive.proofs.Common.{OnlyWaits}
use Rattle.act_drive.proofs.driver.Driver.send_some.Given as goal

abbrev pub invariant-loop-sent : goal.invariant-loop-sent
invariant-loop-sent g l = OnlyWaits l.lines l.fn.self l.self
