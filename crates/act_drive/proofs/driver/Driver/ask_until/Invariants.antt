use Rattle.act_drive.proofs.Common.{OnlyWaits}
use Rattle.act_drive.proofs.driver.Driver.ask_until.Given as goal

abbrev pub invariant-loop : goal.invariant-loop
invariant-loop g l = OnlyWaits l.lines l.initial.self l.self
