use Rattle.act_inbox.proofs.Common.{take_all, ◌≡◌, ◌≤◌, ◌+◌, map, subst, take, refl, arith, common_steps, All-more, lane_at_first}
use Rattle.act_inbox.proofs.Opening.{no_notes, opened, opened_is_inbox}
use Rattle.act_inbox.proofs.inbox.Inbox.open.Goals as goal

pub loop-caller-preserved : goal.loop-caller-preserved
loop-caller-preserved c =
    let so_far = c.loop-caller.invariant.0 in
    let lanes : c.push.new.self.items ≡ map lane_at_first (take (c.loop-caller.caller-index + 1) c.args.callers.now) = grind (arith, common_steps) in (
      lanes,
      All-more (λ caller. (1 ≤ caller) × (caller ≤ 16)) c.args.callers.now c.loop-caller.caller-index c.caller-item.result c.loop-caller-test.true
          c.loop-caller.invariant.1 (subst (λ caller. (1 ≤ caller) × (caller ≤ 16)) c.caller-item.is c.number.ensures.valid),
    )

pub invariant_of-result : goal.invariant_of-result
invariant_of-result c =
    let all = rw (take_all c.loop-caller.caller-index c.args.callers.now c.loop-caller-test.false) at c.loop-caller.invariant in
    opened_is_inbox _ (record { lanes = c.loop-caller.lanes.items; held = c.in_ok-new.field-0; notes = no_notes 17 }) all.0 c.in_ok-new.ensures refl
    c.requires.distinct all.1

pub returns : goal.returns
returns c =
    let all = rw (take_all c.loop-caller.caller-index c.args.callers.now c.loop-caller-test.false) at c.loop-caller.invariant in
    opened _ _ all.0 c.in_ok-new.ensures refl
