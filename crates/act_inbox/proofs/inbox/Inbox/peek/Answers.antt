use Rattle.act_inbox.proofs.Common.{sym, ◌∙◌, ap, option_copied, the_view}
use Rattle.act_inbox.proofs.Lanes.{lane_is, no_lane}
use Rattle.act_inbox.proofs.Packets.{unlisted_next, listed_next}
use Rattle.act_inbox.proofs.inbox.Inbox.peek.Goals as goal

pub returns-in_err-place : goal.returns-in_err-place
returns-in_err-place c =
    let inbox = the_view c.self.inside in
    let at = rw c.deref.ensures.value at (sym c.place_of_lane.ensures ∙ c.in_err-place.was) in
    ap option_copied c.from_residual.ensures ∙ rw (← c.self.view_is) (sym (unlisted_next inbox c.args.caller (no_lane inbox c.args.caller at)))

pub returns : goal.returns
returns c =
    let inbox = the_view c.self.inside in
    let at = rw c.deref.ensures.value at (sym c.place_of_lane.ensures ∙ c.in_ok-place.was) in
    rw (← c.self.view_is) (c.get.ensures ∙ sym (listed_next inbox c.args.caller (lane_is inbox c.args.caller c.in_ok-place.place at c.index.ensures)))
