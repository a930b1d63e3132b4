use Rattle.act_replies.proofs.Common.{refl, map-set, map-set_same, Link}
use Rattle.act_replies.proofs.table.set_before.Goals as goal

pub returns-in-Some-clause-actors : goal.returns-in-Some-clause-actors
returns-in-Some-clause-actors c = map-set_same (λ (link : Link). link.actor) c.args.links.now c.number.result _ c.index-links-number.result refl

pub returns-in-Some-clause-after : goal.returns-in-Some-clause-after
returns-in-Some-clause-after c = map-set_same (λ (link : Link). link.after) c.args.links.now c.number.result _ c.index-links-number.result refl

pub returns-in-Some-clause-before : goal.returns-in-Some-clause-before
returns-in-Some-clause-before c = rw (c.in-Some.is, ← c.number.ensures) (map-set (λ (link : Link). link.before) c.args.links.now c.number.result _)
