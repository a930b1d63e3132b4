use Rattle.std.proofs.Common.{ℕ, List, subst, ap, Contains}
use Rattle.act_mailbox.specs.Lines.{putter_of_stamped}
use Rattle.act_mailbox.proofs.Steps.{deals, may_deal}
use Rattle.act_mailbox.proofs.Stamps.{stamped_forks}
use Rattle.act_mailbox.proofs.line.Line.deal_as.Goals as goal

pub another-pass-requires-clause-rule : goal.another-pass-requires-clause-rule
another-pass-requires-clause-rule g c = stamped_forks g.T.Item.putter _ _ _ _ (deals (putter_of_stamped g.T.Item.putter)
    _ _ _ (may_deal _ _ _ _ _ c.taker.invariant.1 (λ has. c.requires.new (subst (λ (n : ℕ). Contains c.args.taker.now.putters n) c.requires.name
    (subst (λ (l : List ℕ). Contains l g.P.Named.name) (ap (λ v. v.putters) c.taker.view_is) has)))))
