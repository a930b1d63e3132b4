use Rattle.act_replies.proofs.Common.{◌<◌, ◌∙◌, length, arith, linked_actors}
use Rattle.act_replies.proofs.Counts.{counts_pushed}
use Rattle.act_replies.proofs.Links.{entered, entered_actors}
use Rattle.act_replies.proofs.table.Waiting.push.Goals as goal

pub invariant_of-self : goal.invariant_of-self
invariant_of-self c =
    let listed : c.args.actor < length c.self.inside.last = omega arith in
    let counted : c.number-3.result < length c.self.inside.counts = omega arith in (
      entered c.self.inside.links.items c.deref_mut.result.now c.set_after.new.links c.push_reserved.new.self.items c.self.inside.last c.self.inside.links.len
          c.args.actor c.number.result c.number-2.result c.new-future.result c.index-self-number.result c.self.invariant.0 c.self.inside.links.ok.0
          c.deref_mut.ensures.value c.number.ensures.valid.1 listed c.number.ensures.value c.number-2.ensures.value
          (c.new-future.ensures ∙ c.len.ensures) c.set_after.ensures.actors c.set_after.ensures.before c.set_after.ensures.after c.push_reserved.ensures.items,
      counts_pushed (linked_actors c.self.inside.links.items) c.self.inside.counts c.args.actor c.self.invariant.1 counted c.number-3.ensures.value
          (entered_actors c.set_after.new.links _ c.self.inside.links.ok.0 c.deref_mut.ensures.value c.set_after.ensures.actors c.push_reserved.ensures.items),
    )
