use Rattle.act_drive.proofs.Common.{refl, rules, ◌≡◌, ◌<◌, length, None, session_view, use_refusal}
use Rattle.act_drive.proofs.AtWork.{work_kill, work_waits, later_seen, hears_seen}
use Rattle.act_drive.proofs.CodeSteps.{does_kill}
use Rattle.act_drive.proofs.lent.LentSession.kill.Goals as goal

pub invariant_of-self : goal.invariant_of-self
invariant_of-self g c =
    let driver = c.self.inside.driver in
    let fine : use_refusal (session_view driver.owner) c.args.actor ≡ None = search rules in
    let same : c.number-number.result ≡ c.args.actor = search rules in
    let below : c.number-number.result < length c.self.inside.kills = search rules in
    rw c.add_step.ensures (work_kill _ _ _ _ _ c.args.actor _ same below c.self.invariant c.kill.ensures.calling c.kill.ensures.stays c.in-Ok.ensures.traced
    (does_kill c.self.inside.lines.now driver c.kill.new.self c.args.actor c.in-Ok.ensures.follows fine))

pub invariant_of-self-in-Err : goal.invariant_of-self-in-Err
invariant_of-self-in-Err g c = work_waits c.self.invariant c.kill.ensures.calling c.in-Err.ensures.waits c.in-Err.ensures.on_refusal

pub returns-in-Ok-clause-on : goal.returns-in-Ok-clause-on
returns-in-Ok-clause-on g c = later_seen c.self.view_is (record { limits = c.kill.ensures.stays.limits; kept = c.kill.ensures.stays.kept })

pub returns-in-Err-clause-on : goal.returns-in-Err-clause-on
returns-in-Err-clause-on g c = later_seen c.self.view_is (record { limits = c.kill.ensures.stays.limits; kept = c.kill.ensures.stays.kept })

pub returns-in-Err-clause-hears : goal.returns-in-Err-clause-hears
returns-in-Err-clause-hears g c =
    hears_seen _ c.self.view_is (record { calls = c.kill.ensures.hears.calls; handles = c.kill.ensures.hears.handles; kills = refl })
