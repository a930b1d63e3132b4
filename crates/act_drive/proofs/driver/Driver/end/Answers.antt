use Rattle.act_drive.proofs.Common.{refl}
use Rattle.act_drive.proofs.Drivers.{waits_same}
use Rattle.act_drive.proofs.driver.Driver.end.Goals as goal

pub returns-then-is_through-clause-calling : goal.returns-then-is_through-clause-calling
returns-then-is_through-clause-calling g c = c.requires.calling

pub returns-then-is_through-clause-stays : goal.returns-then-is_through-clause-stays
returns-then-is_through-clause-stays g c = (waits_same c.args.self.now).stay

pub returns-then-is_through-clause-same : goal.returns-then-is_through-clause-same
returns-then-is_through-clause-same g c _ = refl

pub returns-clause-calling : goal.returns-clause-calling
returns-clause-calling g c = c.ask_once.ensures.calling

pub returns-clause-stays : goal.returns-clause-stays
returns-clause-stays g c = c.ask_once.ensures.stays
