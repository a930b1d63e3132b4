use Rattle.act_drive.proofs.Common.{caller_clock}
use Rattle.act_drive.proofs.driver.Driver.send_next.Given as goal

abbrev pub ghosts-post_letter : goal.ghosts-post_letter
ghosts-post_letter g a = record { stamp = caller_clock a.self.now.passes }
