use Rattle.std.proofs.Common.{refl, ap, ◌∙◌}
use Rattle.act_mailbox.specs.Lines.{putter_of_stamped}
use Rattle.act_mailbox.proofs.Steps.{copies, sees, audits, is_putting, is_copy, shown_is, audited_is}
use Rattle.act_mailbox.proofs.Stamps.{stamped_forks, stamped_merges, stamped_learns, prefix_of_items, prefix_of_zips}
use Rattle.act_mailbox.proofs.line.Line.audit.Goals as goal

pub another-copy-requires-clause-rule : goal.another-copy-requires-clause-rule
another-copy-requires-clause-rule g c = stamped_forks g.T.Item.putter _ _ _ _ (copies (putter_of_stamped g.T.Item.putter) _ _)

pub absorb-requires-clause-rule : goal.absorb-requires-clause-rule
absorb-requires-clause-rule g c = stamped_merges g.T.Item.putter _ _ _ _ _ _ (sees (putter_of_stamped g.T.Item.putter) _ _ _ _ c.putter.inside.number
    (is_putting _ _ _ _ _ _ refl c.putter.invariant.1.1) (is_copy _ _ _ _ _ c.taker.invariant.1 c.another-copy.ensures.rule.1))

pub len_as-requires-clause-rule : goal.len_as-requires-clause-rule
len_as-requires-clause-rule g c = stamped_learns g.T.Item.putter _ _ _ (audits (putter_of_stamped g.T.Item.putter) _ _)

pub invariant_of-putter : goal.invariant_of-putter
invariant_of-putter g c = (
  c.len_as.ensures.queue.0.2 ∙ c.absorb.ensures.queue.2 ∙ c.putter.invariant.0,
  (
    _,
    shown_is _ _ _ _ _ _ _ _ _ _ _ c.putter.invariant.1.1 c.taker.invariant.1 c.another-copy.ensures.rule.1 (c.len_as.ensures.queue.1 ∙ c.absorb.ensures.rule),
  ),
)

pub returns-clause-prefix : goal.returns-clause-prefix
returns-clause-prefix g c = prefix_of_items g.T.Item.putter _ _ _ _ _ _ (ap (λ v. v.number) c.putter.view_is) (ap (λ v. v.put) c.putter.view_is)
    (ap (λ v. v.taken) c.taker.view_is) (audited_is (putter_of_stamped g.T.Item.putter) _ _ _ _ _ _ _ _ _ _ _ c.putter.invariant.1.1 c.taker.invariant.1
    c.another-copy.ensures.rule.1 c.absorb.ensures.rule c.len_as.ensures.rule.1.2)

pub returns-clause-stamps : goal.returns-clause-stamps
returns-clause-stamps g c = prefix_of_zips g.T.Item.putter _ _ _ _ _ _ _ _ (ap (λ v. v.number) c.putter.view_is) (ap (λ v. v.put) c.putter.view_is) (ap
    (λ v. v.stamps) c.putter.view_is) (ap (λ v. v.taken) c.taker.view_is) (ap (λ v. v.stamps) c.taker.view_is) (audited_is (putter_of_stamped g.T.Item.putter)
    _ _ _ _ _ _ _ _ _ _ _ c.putter.invariant.1.1 c.taker.invariant.1 c.another-copy.ensures.rule.1 c.absorb.ensures.rule c.len_as.ensures.rule.1.2)
