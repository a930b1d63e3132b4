use Rattle.act_inbox.proofs.Common.{◌∙◌, ap, is_some, the_view}
use Rattle.act_inbox.proofs.Notes.{listed_is}
use Rattle.act_inbox.proofs.inbox.Inbox.lists.Goals as goal

pub returns : goal.returns
returns c = rw (← c.self.view_is)
    (c.is_some.ensures ∙ ap is_some (rw c.deref.ensures.value at c.place_of_lane.ensures) ∙ listed_is (the_view c.self.inside) c.args.caller)
