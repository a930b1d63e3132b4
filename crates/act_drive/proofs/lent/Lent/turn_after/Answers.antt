use Rattle.act_drive.proofs.AtWork.{work_waits}
use Rattle.act_drive.proofs.lent.Lent.turn_after.Goals as goal

pub invariant_of-self : goal.invariant_of-self
invariant_of-self g c =
    work_waits c.self.invariant c.turn_after.ensures.only_waits.calling c.turn_after.ensures.only_waits.waits c.turn_after.ensures.only_waits.traced
