use Rattle.act_drive.proofs.Common.{OnlyWaits}
use Rattle.act_drive.proofs.driver.Driver.collect_some.Given as goal

abbrev pub invariant-loop-heard : goal.invariant-loop-heard
invariant-loop-heard g l = OnlyWaits l.lines l.fn.self l.self
