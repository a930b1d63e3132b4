use Rattle.std.proofs.Common.{ap}
use Rattle.act_mailbox.specs.Lines.{putter_of_stamped}
use Rattle.act_mailbox.proofs.Steps.{takes, is_taking}
use Rattle.act_mailbox.proofs.Stamps.{stamped_takes, took_stamp, took_known}
use Rattle.act_mailbox.proofs.line.Line.try_take.Goals as goal

pub try_pop_as-requires-clause-rule : goal.try_pop_as-requires-clause-rule
try_pop_as-requires-clause-rule g c =
    stamped_takes g.T.Item.putter _ _ _ (takes (putter_of_stamped g.T.Item.putter) _ _ _ (is_taking _ _ _ _ c.taker.invariant.1))

pub returns-clause-stamped : goal.returns-clause-stamped
returns-clause-stamped g c = took_stamp g.T.Item.putter _ _ _ _ _ _ _ _ _ c.taker.invariant.1 (ap (λ v. v.stamps) c.taker.view_is) c.try_pop_as.ensures.rule

pub returns-clause-known : goal.returns-clause-known
returns-clause-known g c = took_known g.T.Item.putter _ _ _ _ _ (ap (λ v. v.putters) c.taker.view_is) c.try_pop_as.ensures.rule
