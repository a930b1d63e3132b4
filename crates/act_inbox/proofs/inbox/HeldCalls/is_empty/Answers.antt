use Rattle.act_inbox.proofs.Slots.{none_decides}
use Rattle.act_inbox.proofs.inbox.HeldCalls.is_empty.Goals as goal

pub returns : goal.returns
returns c = rw (← c.self.view_is) (none_decides c.self.inside.packets.slots c.is_empty.ensures)
