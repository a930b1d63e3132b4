use Rattle.act_inbox.proofs.Common.{◌≡◌, ◌≤◌, All, map, take, lane_at_first}
use Rattle.act_inbox.proofs.inbox.Inbox.open.Given as goal

abbrev pub invariant-loop-caller : goal.invariant-loop-caller
invariant-loop-caller l =
    (l.lanes.items ≡ map lane_at_first (take l.caller-index l.callers))
    × All (λ caller. (1 ≤ caller) × (caller ≤ 16)) (take l.caller-index l.callers)
