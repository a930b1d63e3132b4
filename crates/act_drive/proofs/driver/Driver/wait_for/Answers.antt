use Rattle.act_drive.proofs.Common.{rules, ◌≡◌, is_some, false, kept_at}
use Rattle.act_drive.proofs.Drivers.{only_waits_trans}
use Rattle.act_drive.proofs.CodeSteps.{kept_still}
use Rattle.act_drive.proofs.driver.Driver.wait_for.Goals as goal

pub loop-preserved : goal.loop-preserved
loop-preserved g c = only_waits_trans c.loop.invariant c.in_ok-wait_turn.ensures.only_waits

pub returns-then-is_some-clause-only_waits : goal.returns-then-is_some-clause-only_waits
returns-then-is_some-clause-only_waits g c = c.loop.invariant

pub returns-in_err-wait_turn-clause-only_waits : goal.returns-in_err-wait_turn-clause-only_waits
returns-in_err-wait_turn-clause-only_waits g c = only_waits_trans c.loop.invariant c.in_err-wait_turn.ensures.only_waits

pub returns-in_err-wait_turn-clause-kept : goal.returns-in_err-wait_turn-clause-kept
returns-in_err-wait_turn-clause-kept g c has =
    let none : is_some (kept_at c.loop.self.owner.kept c.args.k) ≡ false = search rules in
    let some = kept_still _ _ c.args.k c.loop.invariant.waits.stay.kept has in absurd (cc (none, some))
