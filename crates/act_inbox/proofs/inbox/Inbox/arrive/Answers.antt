use Rattle.act_inbox.proofs.inbox.Inbox.arrive.Goals as goal

pub returns-clause-waiting : goal.returns-clause-waiting
returns-clause-waiting c = rw c.in-New.is c.in_ok-hold.ensures.taken.waits

pub returns-clause-held : goal.returns-clause-held
returns-clause-held c = rw c.in-New.is c.in_ok-hold.ensures.held
