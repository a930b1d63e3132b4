use Rattle.act_drive.proofs.Common.{rules, refl, sym, subst, ◌<◌, ◌≡◌, length, get_or, nat_lt, is_some, true, list_all, position-Some, kept_at, first_answered}
use Rattle.act_drive.proofs.CodeSteps.{all_below}
use Rattle.act_drive.proofs.AtWork.{work_waits, work_awaits, later_seen, hears_seen}
use Rattle.act_drive.proofs.lent.LentSession.wait_any.Goals as goal

pub invariant_of-self : goal.invariant_of-self
invariant_of-self g c =
    let ks = c.args.futures.now in let at = c.in-Ok.at in let k = c.index-futures-at.result in let calls = c.self.inside.driver.owner.calls in
    let found = position-Some (λ j. is_some (kept_at c.wait_for_any.new.self.owner.kept j)) ks at k c.in-Ok.ensures.first in
    let here : get_or ks at k ≡ k = sym c.index-futures-at.is in
    let all : list_all (λ j. nat_lt j (length calls)) ks ≡ true = search rules in
    let below : k < length calls = subst (λ j. j < length calls) here (all_below ks (length calls) at k all found.0) in
    let answered : is_some (kept_at c.wait_for_any.new.self.owner.kept k) ≡ true =
    subst (λ j. is_some (kept_at c.wait_for_any.new.self.owner.kept j) ≡ true) here found.1 in
    rw c.add_step.ensures (work_awaits _ _ _ _ _ k _ _ c.self.invariant c.wait_for_any.ensures.only_waits below answered)

pub invariant_of-self-in-Err : goal.invariant_of-self-in-Err
invariant_of-self-in-Err g c =
    work_waits c.self.invariant c.wait_for_any.ensures.only_waits.calling c.wait_for_any.ensures.only_waits.waits c.wait_for_any.ensures.only_waits.traced

pub returns-in-Err-clause-kept : goal.returns-in-Err-clause-kept
returns-in-Err-clause-kept g c may has = c.in-Err.ensures.kept (subst (λ s. is_some (first_answered s c.args.futures.now) ≡ true) (sym c.self.view_is) has)

pub returns-in-Ok-clause-hears : goal.returns-in-Ok-clause-hears
returns-in-Ok-clause-hears g c = hears_seen _ c.self.view_is
    (record { calls = c.wait_for_any.ensures.only_waits.waits.calls; handles = c.wait_for_any.ensures.only_waits.waits.handles; kills = refl })

pub returns-in-Err-clause-hears : goal.returns-in-Err-clause-hears
returns-in-Err-clause-hears g c = hears_seen _ c.self.view_is
    (record { calls = c.wait_for_any.ensures.only_waits.waits.calls; handles = c.wait_for_any.ensures.only_waits.waits.handles; kills = refl })

pub returns-in-Ok-clause-on : goal.returns-in-Ok-clause-on
returns-in-Ok-clause-on g c = later_seen c.self.view_is
    (record { limits = c.wait_for_any.ensures.only_waits.waits.stay.limits; kept = c.wait_for_any.ensures.only_waits.waits.stay.kept })

pub returns-in-Err-clause-on : goal.returns-in-Err-clause-on
returns-in-Err-clause-on g c = later_seen c.self.view_is
    (record { limits = c.wait_for_any.ensures.only_waits.waits.stay.limits; kept = c.wait_for_any.ensures.only_waits.waits.stay.kept })
