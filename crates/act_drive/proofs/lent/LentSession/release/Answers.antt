use Rattle.act_drive.proofs.Common.{rules, ◌≡◌, refl, None, session_view, use_refusal}
use Rattle.act_drive.proofs.AtWork.{work_does}
use Rattle.act_drive.proofs.CodeSteps.{does_release}
use Rattle.act_drive.proofs.lent.LentSession.release.Goals as goal

pub invariant_of-self : goal.invariant_of-self
invariant_of-self g c =
    let driver = c.self.inside.driver in
    let fine : use_refusal (session_view driver.owner) c.args.actor ≡ None = search rules in
    rw c.add_step.ensures (work_does _ _ _ _ _ _ _ (λ a. refl) c.self.invariant c.release.ensures.calling c.release.ensures.only_releases.stay
    c.in-Ok.ensures.traced (does_release c.self.inside.lines.now driver c.release.new.self c.args.actor c.in-Ok.ensures.follows fine))
