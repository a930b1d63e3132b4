use Rattle.act_drive.proofs.Common.{IsCalling, Stays}
use Rattle.act_drive.proofs.driver.Driver.starve.Given as goal

abbrev pub invariant-loop : goal.invariant-loop
invariant-loop g l = record { calling : IsCalling l.lines l.self; stay : Stays l.initial.self l.self }
