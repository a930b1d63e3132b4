use Rattle.std.proofs.Common.{sym, ap, ◌∙◌}
use Rattle.act_mailbox.specs.Lines.{putter_of_stamped}
use Rattle.act_mailbox.proofs.Steps.{puts, is_putting}
use Rattle.act_mailbox.proofs.Stamps.{stamped_puts}
use Rattle.act_mailbox.proofs.line.Line.put.Goals as goal

pub push_as-put-requires-clause-rule : goal.push_as-put-requires-clause-rule
push_as-put-requires-clause-rule g c = (
  stamped_puts g.T.Item.putter _ _ _ _ _ _ (puts (putter_of_stamped g.T.Item.putter)
      _ _ _ _ _ (is_putting _ _ _ _ _ _ (ap (λ v. v.number) c.putter.view_is ∙ sym c.requires.number) c.putter.invariant.1.1)),
  λ _ _ _ _. tt,
)
