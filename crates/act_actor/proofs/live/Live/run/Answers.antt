use Rattle.act_actor.proofs.Common.{◌≡◌, Some, sym, ◌∙◌}
use Rattle.act_types.specs.declared.call.Packet.{Packet}
use Rattle.act_actor.proofs.Running.{follows_more, answer_more}
use Rattle.act_actor.proofs.live.Live.run.Goals as goal

same : (one other : Packet) → Some one ≡ Some other → one ≡ other
same one other both = cc

pub returns-clause-follows : goal.returns-clause-follows
returns-clause-follows g c = λ opening from.
    let handed = same _ _ (sym c.unwrap-packet.ensures ∙ c.next.ensures.value ∙ sym c.in-Some.ensures) in
    follows_more opening _ _ _ _ (rw (c.in_ok-reply.ensures.log, c.item_of.ensures, handed) at c.add.ensures)
    (rw (← c.self.view_is) at from) _ c.in_ok-reply.ensures.moved

pub returns-clause-answers : goal.returns-clause-answers
returns-clause-answers g c = λ opening from.
    let handed = same _ _ (sym c.unwrap-packet.ensures ∙ c.next.ensures.value ∙ sym c.in-Some.ensures) in
    rw c.in_ok-reply.ensures.reply
    (answer_more opening _ _ _ _ (rw (c.in_ok-reply.ensures.log, c.item_of.ensures, handed) at c.add.ensures) (rw (← c.self.view_is) at from))
