use Rattle.act_mailbox.proofs.Stamps.{stamped_begins}
use Rattle.act_mailbox.proofs.line.Line.open.Goals as goal

pub ruled-requires-clause-rule : goal.ruled-requires-clause-rule
ruled-requires-clause-rule g c = stamped_begins g.T.Item.putter
