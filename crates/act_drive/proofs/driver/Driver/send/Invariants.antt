use Rattle.act_drive.proofs.Common.{caller_clock}
use Rattle.act_drive.proofs.driver.Driver.send.Given as goal

abbrev pub ghosts-send_at : goal.ghosts-send_at
ghosts-send_at g a = record { stamp = caller_clock a.self.now.passes }
