use Rattle.act_inbox.proofs.Common.{sym, ◌∙◌, the_view}
use Rattle.act_inbox.proofs.Lanes.{lane_is, no_lane, unlisted_handed, listed_handed}
use Rattle.act_inbox.proofs.inbox.Inbox.handed.Goals as goal

pub returns-in-None-clause-value : goal.returns-in-None-clause-value
returns-in-None-clause-value c =
    let inbox = the_view c.self.inside in
    rw (← c.self.view_is)
    (unlisted_handed inbox c.args.caller (no_lane inbox c.args.caller (rw c.deref.ensures.value at (sym c.place_of_lane.ensures ∙ c.in-None.is))))

pub returns-in-Some-clause-value : goal.returns-in-Some-clause-value
returns-in-Some-clause-value c =
    let inbox = the_view c.self.inside in
    let at = rw c.deref.ensures.value at (sym c.place_of_lane.ensures ∙ c.in-Some.is) in
    rw (← c.self.view_is) (listed_handed inbox c.args.caller (lane_is inbox c.args.caller c.in-Some.place at c.index.ensures))
