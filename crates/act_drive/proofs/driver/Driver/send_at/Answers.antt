use Rattle.act_drive.proofs.Common.{refl}
use Rattle.act_drive.proofs.Drivers.{stays_same}
use Rattle.act_drive.proofs.driver.Driver.send_at.Goals as goal

pub returns-in_default-clause-waits : goal.returns-in_default-clause-waits
returns-in_default-clause-waits g c =
    record { stay = stays_same c.args.self.now _ refl refl refl refl; calls = refl; handles = refl; kills = refl; heard = λ notice has. has }
