use Rattle.act_owner.proofs.Common.{◌∙◌, ap, sym, option_copied, Packet, with_sent}
use Rattle.act_owner.proofs.Answers.{sent_fine, sent_marked}
use Rattle.act_owner.proofs.Waiting.{ready_is_there}
use Rattle.act_owner.proofs.owner.Owner.next_packet.Goals as goal

pub unreachable-requires : goal.unreachable-requires
unreachable-requires c =
    ready_is_there c.args.self.now c.in-Some.k (sym c.ready.ensures ∙ c.in-Some.is) (sym c.call.ensures ∙ ap option_copied c.in_default-call.is)

pub invariant_of-self : goal.invariant_of-self
invariant_of-self c = let inside = c.self.inside in sent_fine c.in-Some.k c.self.invariant c.mark_sent.ensures.calls

pub returns-clause-ok : goal.returns-clause-ok
returns-clause-ok c =
    let inside = c.self.inside in
    sent_marked inside.id inside.handles inside.calls.items inside.table.rows inside.resolver.calls inside.dead inside.limits.items c.in-Some.k c.self.view_is
    c.mark_sent.ensures.calls
    ∙ ap (λ (packet : Packet). with_sent c.args.self.now packet.future) (sym c.in_ok-packet.ensures)
