use Rattle.act_drive.proofs.Common.{refl}
use Rattle.act_drive.proofs.AtWork.{work_does}
use Rattle.act_drive.proofs.lent.LentSession.copy.Goals as goal

pub invariant_of-self-2 : goal.invariant_of-self-2
invariant_of-self-2 g c =
    rw c.add_step.ensures (work_does _ _ _ _ _ _ _ (λ a. refl) c.self.invariant (c.in_ok-copies.ensures.calling _ c.self.invariant.calling)
    c.in_ok-copies.ensures.stays (c.in_ok-copies.ensures.traced c.self.inside.lines.now) (c.in_ok-copies.ensures.does c.self.inside.lines.now))
