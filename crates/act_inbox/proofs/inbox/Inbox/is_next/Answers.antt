use Rattle.act_inbox.proofs.Common.{◌≡◌, [], sym, ◌∙◌, the_view}
use Rattle.act_inbox.proofs.Lanes.{lane_is, no_lane}
use Rattle.act_inbox.proofs.Packets.{none_next, next_decides}
use Rattle.act_inbox.proofs.inbox.Inbox.is_next.Goals as goal

pub returns-in-None : goal.returns-in-None
returns-in-None c =
    let inbox = the_view c.self.inside in
    let at = rw c.deref.ensures.value at (sym c.place_of_lane.ensures ∙ c.in-None.is) in
    rw (← c.self.view_is) (none_next inbox c.args.packet.now (no_lane inbox c.args.packet.now.caller at))

pub returns-then-packet-lt-MAX_CALLS : goal.returns-then-packet-lt-MAX_CALLS
returns-then-packet-lt-MAX_CALLS c =
    let inbox = the_view c.self.inside in
    let at = rw c.deref.ensures.value at (sym c.place_of_lane.ensures ∙ c.in-Some.is) in
    let listed = lane_is inbox c.args.packet.now.caller c.in-Some.place at c.index.ensures in
    let empty : inbox.held ≡ [] = rw (← c.self.view_is) at c.requires in
    rw (← c.self.view_is) (next_decides inbox c.args.packet.now c.index.result.now listed c.if-packet-lt-MAX_CALLS.true empty)
