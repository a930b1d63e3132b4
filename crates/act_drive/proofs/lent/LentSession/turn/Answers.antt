use Rattle.act_drive.proofs.AtWork.{work_waits}
use Rattle.act_drive.proofs.lent.LentSession.turn.Goals as goal

pub invariant_of-self : goal.invariant_of-self
invariant_of-self g c = work_waits c.self.invariant c.turn.ensures.only_waits.calling c.turn.ensures.only_waits.waits c.turn.ensures.only_waits.traced

pub invariant_of-self-2 : goal.invariant_of-self-2
invariant_of-self-2 g c = work_waits c.self.invariant c.turn.ensures.only_waits.calling c.turn.ensures.only_waits.waits c.turn.ensures.only_waits.traced
