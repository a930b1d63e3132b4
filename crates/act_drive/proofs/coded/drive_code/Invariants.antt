use Rattle.act_drive.proofs.Common.{◌≡◌, actors_in}
use Rattle.act_drive.proofs.coded.drive_code.Given as goal

abbrev pub ghosts-work : goal.ghosts-work
ghosts-work g a = record { actors = actors_in a.driver.owner.handles; began = λ lines d. (lines ≡ a.lines.now) × (d ≡ a.driver) }
