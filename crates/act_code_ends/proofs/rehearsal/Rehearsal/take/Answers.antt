use Rattle.act_code_ends.proofs.Common.{◌≡◌, ◌∙◌, length, subst, sym, OwnerView, after_collect, OnlyTakes}
use Rattle.act_code_ends.proofs.Taking.{seen_of, places_heard, takes_one}
use Rattle.act_code_ends.proofs.rehearsal.Rehearsal.take.Goals as goal

pub invariant_of-self : goal.invariant_of-self
invariant_of-self c = subst (λ (o : OwnerView). length o.kept ≡ length o.calls) (sym c.collect.ensures.after)
    (places_heard c.self.inside.owner c.in-Some.notice c.self.invariant)

pub returns-in-Some : goal.returns-in-Some
returns-in-Some c =
    let owner = c.self.inside.owner in let kills = c.self.inside.kills in let did = c.self.inside.did.value in
    let before = c.self.view_is ∙ c.mark_sent.ensures ∙ c.next_notice.ensures in
    subst (λ o. OnlyTakes c.args.self.now (seen_of o kills did)) (sym c.collect.ensures.after)
    (subst (λ s. OnlyTakes s (seen_of (after_collect owner c.in-Some.notice) kills did)) before (takes_one owner c.in-Some.notice kills did c.self.invariant))
