use Rattle.act_drive.proofs.Common.{caller_clock}
use Rattle.act_drive.proofs.driver.Driver.ask.Given as goal

abbrev pub ghosts-ask_at : goal.ghosts-ask_at
ghosts-ask_at g a = record { stamp = caller_clock a.self.now.passes }
