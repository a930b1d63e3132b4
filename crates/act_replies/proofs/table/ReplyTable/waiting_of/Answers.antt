use Rattle.act_replies.proofs.Common.{ap, TableView}
use Rattle.act_replies.proofs.Deaths.{last_waits, none_waiting}
use Rattle.act_replies.proofs.table.ReplyTable.waiting_of.Goals as goal

pub returns-clause-last : goal.returns-clause-last
returns-clause-last c =
    last_waits c.args.actor c.self.inside.rows.items c.args.self.now.rows c.self.inside.waiting.actors c.last_of.result
    (ap (λ (t : TableView). t.rows) c.self.view_is) c.self.invariant.1 c.last_of.ensures

pub returns-clause-none : goal.returns-clause-none
returns-clause-none c = none_waiting c.args.actor c.last_of.result (ap (λ (t : TableView). t.rows) c.self.view_is) c.self.invariant.1 c.last_of.ensures
