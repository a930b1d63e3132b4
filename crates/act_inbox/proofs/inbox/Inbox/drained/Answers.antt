use Rattle.act_inbox.proofs.Common.{the_view}
use Rattle.act_inbox.proofs.Notes.{drained_decides}
use Rattle.act_inbox.proofs.inbox.Inbox.drained.Goals as goal

pub returns : goal.returns
returns c = rw (← c.self.view_is) (drained_decides (the_view c.self.inside) c.self.invariant c.are_done.result (rw c.deref.ensures.value at c.are_done.ensures))
