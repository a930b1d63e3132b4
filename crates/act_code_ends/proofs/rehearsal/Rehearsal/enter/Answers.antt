use Rattle.act_code_ends.proofs.Common.{◌∙◌, ap}
use Rattle.act_code_ends.proofs.Taking.{seen_of, submits_seen, later_seen}
use Rattle.act_code_ends.proofs.rehearsal.Rehearsal.enter.Goals as goal

pub returns-clause-submits : goal.returns-clause-submits
returns-clause-submits c =
    let owner = c.self.inside.owner in let kills = c.self.inside.kills in let did = c.self.inside.did.value in
    let same = c.self-2.view_is ∙ c.note.ensures ∙ ap (λ o. seen_of o kills did) c.in-Ok-submit.ensures.ok in
    submits_seen _ owner c.args.actor c.args.method c.args.args kills did _ c.self.view_is same

pub returns-clause-on : goal.returns-clause-on
returns-clause-on c =
    let owner = c.self.inside.owner in let kills = c.self.inside.kills in let did = c.self.inside.did.value in
    let same = c.self-2.view_is ∙ c.note.ensures ∙ ap (λ o. seen_of o kills did) c.in-Ok-submit.ensures.ok in
    later_seen _ owner c.args.actor c.args.method c.args.args kills did _ c.self.invariant c.self.view_is same
