use Rattle.act_drive.proofs.Common.{◌≡◌, ◌∙◌, ap, refl, unwrap_or, NoMemory, call_refusal}
use Rattle.act_drive.proofs.CodeSteps.{handed_on, on_err}
use Rattle.act_drive.proofs.AtWork.{work_does, work_waits, later_seen, hears_seen}
use Rattle.act_drive.proofs.lent.Lent.enter.Goals as goal

pub invariant_of-self : goal.invariant_of-self
invariant_of-self g c = work_waits c.self.invariant c.in_err-k.ensures.calling c.in_err-k.ensures.waits c.in_err-k.ensures.on_refusal

pub invariant_of-self-2 : goal.invariant_of-self-2
invariant_of-self-2 g c = rw c.add_step.ensures (rw c.submission-step.ensures
    (work_does _ _ _ _ _ _ _ (λ a. refl) c.self.invariant c.in_ok-k.ensures.calling c.in_ok-k.ensures.stays c.in_ok-k.ensures.traced c.in_ok-k.ensures.does))

pub returns-in_err-k-clause-refusal : goal.returns-in_err-k-clause-refusal
returns-in_err-k-clause-refusal g c =
    handed_on c.from_residual.result c.in_err-k.field-0.0
    (λ r. r ≡ unwrap_or (call_refusal c.args.self.now c.args.actor c.args.args) NoMemory) c.from_residual.ensures.1
    (c.in_err-k.ensures.refusal ∙ ap (λ s. unwrap_or (call_refusal s c.args.actor c.args.args) NoMemory) c.self.view_is)

pub returns-clause-on : goal.returns-clause-on
returns-clause-on g c = later_seen c.self.view_is (record { limits = c.in_ok-k.ensures.stays.limits; kept = c.in_ok-k.ensures.stays.kept })

pub returns-in_err-k-clause-on : goal.returns-in_err-k-clause-on
returns-in_err-k-clause-on g c = later_seen c.self.view_is (record { limits = c.in_err-k.ensures.stays.limits; kept = c.in_err-k.ensures.stays.kept })

pub returns-in_err-k-clause-hears : goal.returns-in_err-k-clause-hears
returns-in_err-k-clause-hears g c = on_err c.from_residual.result
    (hears_seen _ c.self.view_is (record { calls = c.in_err-k.ensures.waits.calls; handles = c.in_err-k.ensures.waits.handles; kills = refl }))
