use Rattle.act_drive.proofs.Common.{rules, refl, ◌<◌, length}
use Rattle.act_drive.proofs.AtWork.{work_waits, work_awaits, later_seen, hears_seen}
use Rattle.act_drive.proofs.lent.LentSession.wait.Goals as goal

pub invariant_of-self : goal.invariant_of-self
invariant_of-self g c =
    let below : c.args.k < length c.self.inside.driver.owner.calls = search rules in
    rw c.add_step.ensures (work_awaits _ _ _ _ _ c.args.k _ _ c.self.invariant c.wait_for.ensures.only_waits below c.in-Ok.ensures.answered)

pub invariant_of-self-in-Err : goal.invariant_of-self-in-Err
invariant_of-self-in-Err g c =
    work_waits c.self.invariant c.wait_for.ensures.only_waits.calling c.wait_for.ensures.only_waits.waits c.wait_for.ensures.only_waits.traced

pub returns-in-Ok-clause-hears : goal.returns-in-Ok-clause-hears
returns-in-Ok-clause-hears g c = hears_seen _ c.self.view_is
    (record { calls = c.wait_for.ensures.only_waits.waits.calls; handles = c.wait_for.ensures.only_waits.waits.handles; kills = refl })

pub returns-in-Err-clause-hears : goal.returns-in-Err-clause-hears
returns-in-Err-clause-hears g c = hears_seen _ c.self.view_is
    (record { calls = c.wait_for.ensures.only_waits.waits.calls; handles = c.wait_for.ensures.only_waits.waits.handles; kills = refl })

pub returns-in-Ok-clause-on : goal.returns-in-Ok-clause-on
returns-in-Ok-clause-on g c =
    later_seen c.self.view_is (record { limits = c.wait_for.ensures.only_waits.waits.stay.limits; kept = c.wait_for.ensures.only_waits.waits.stay.kept })

pub returns-in-Err-clause-on : goal.returns-in-Err-clause-on
returns-in-Err-clause-on g c =
    later_seen c.self.view_is (record { limits = c.wait_for.ensures.only_waits.waits.stay.limits; kept = c.wait_for.ensures.only_waits.waits.stay.kept })
