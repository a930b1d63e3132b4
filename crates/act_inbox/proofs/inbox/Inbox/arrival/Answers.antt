use Rattle.act_inbox.proofs.Common.{◌≡◌, Some, None, find, sym, ◌∙◌, ap, option_copied, is_packet_of, the_view}
use Rattle.act_inbox.proofs.Lanes.{lane_is, no_lane}
use Rattle.act_inbox.proofs.Packets.{unlisted, handed_out, held_already, comes_first}
use Rattle.act_inbox.proofs.inbox.Inbox.arrival.Goals as goal

pub returns-in_default : goal.returns-in_default
returns-in_default c =
    let inbox = the_view c.self.inside in
    let at = rw c.deref.ensures.value at (sym c.place_of_lane.ensures ∙ c.in_default.is) in
    record { value = rw (← c.self.view_is) (unlisted inbox c.args.caller c.args.number (no_lane inbox c.args.caller at)) }

pub returns-then-number-index : goal.returns-then-number-index
returns-then-number-index c =
    let inbox = the_view c.self.inside in
    let at = rw c.deref.ensures.value at (sym c.place_of_lane.ensures ∙ c.in-Some.is) in
    let listed = lane_is inbox c.args.caller c.in-Some.place at c.index.ensures in
    record {
      value = rw (← c.self.view_is)
          (handed_out inbox c.args.caller c.args.number c.index.result.now listed c.if-number-ge-MAX_CALLS.false c.if-number-index.true);
    }

pub returns-in-Some-get : goal.returns-in-Some-get
returns-in-Some-get c =
    let inbox = the_view c.self.inside in
    let at = rw c.deref.ensures.value at (sym c.place_of_lane.ensures ∙ c.in-Some.is) in
    let listed = lane_is inbox c.args.caller c.in-Some.place at c.index.ensures in
    let there : find (is_packet_of c.args.caller c.args.number) inbox.held ≡ Some c.in-Some-get.field-0.now =
    sym c.get.ensures ∙ ap option_copied c.in-Some-get.is in
    record {
      value = rw (← c.self.view_is)
          (held_already inbox c.args.caller c.args.number c.index.result.now listed c.if-number-ge-MAX_CALLS.false c.if-number-index.false there);
    }

pub returns-in-None : goal.returns-in-None
returns-in-None c =
    let inbox = the_view c.self.inside in
    let at = rw c.deref.ensures.value at (sym c.place_of_lane.ensures ∙ c.in-Some.is) in
    let listed = lane_is inbox c.args.caller c.in-Some.place at c.index.ensures in
    let nowhere : find (is_packet_of c.args.caller c.args.number) inbox.held ≡ None = sym c.get.ensures ∙ ap option_copied c.in-None.is in
    record {
      value = rw (← c.self.view_is)
          (comes_first inbox c.args.caller c.args.number c.index.result.now listed c.if-number-ge-MAX_CALLS.false c.if-number-index.false nowhere);
    }
