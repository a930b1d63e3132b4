use Rattle.act_owner.proofs.Answers.{sent_fine, sent_marked}
use Rattle.act_owner.proofs.owner.Owner.send.Goals as goal

pub invariant_of-self : goal.invariant_of-self
invariant_of-self c = let inside = c.self.inside in sent_fine c.args.k c.self.invariant c.mark_sent.ensures.calls

pub returns-clause-ok : goal.returns-clause-ok
returns-clause-ok c =
    let inside = c.self.inside in
    sent_marked inside.id inside.handles inside.calls.items inside.table.rows inside.resolver.calls inside.dead inside.limits.items c.args.k c.self.view_is
    c.mark_sent.ensures.calls
