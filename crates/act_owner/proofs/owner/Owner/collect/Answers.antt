use Rattle.act_owner.proofs.Common.{◌∙◌, sym, ap, arith, is_some, kept_at, OwnerView}
use Rattle.act_owner.specs.Owner.{after_collect, collect_result, is_sent}
use Rattle.act_owner.proofs.Answers.{first_is, sent_within, kept_fine, reply_kept, died_listed, dead_known, died_fine, death_kept}
use Rattle.act_owner.proofs.owner.Owner.collect.Goals as goal

pub told-requires : goal.told-requires
told-requires c =
    let first =
    first_is c.args.self.now c.in-Answered.reply (sym c.in-First.is ∙ c.collected-told.ensures ∙ ap (collect_result c.args.self.now) c.in-Answered.is) in
    sent_within c.self.inside.resolver.calls c.in-First.k (ap (λ owner. is_sent owner c.in-First.k) c.self.view_is ∙ first.0)

pub invariant_of-self : goal.invariant_of-self
invariant_of-self c =
    let inside = c.self.inside in
    let first =
    first_is c.args.self.now c.in-Answered.reply (sym c.in-First.is ∙ c.collected-told.ensures ∙ ap (collect_result c.args.self.now) c.in-Answered.is) in
    kept_fine c.in-First.k c.in-Answered.reply.answer c.self.invariant
    (ap (λ (owner : OwnerView). is_some (kept_at owner.kept c.in-First.k)) c.self.view_is ∙ first.1) c.keep.ensures.rows c.told.ensures.calls

pub invariant_of-self-in-Died : goal.invariant_of-self-in-Died
invariant_of-self-in-Died c =
    let inside = c.self.inside in
    died_fine c.in-Death.a c.answer_death.new.resolver.calls c.self.invariant
    c.answer_death.ensures.rows c.answer_death.ensures.futures c.answer_death.ensures.told

pub returns-in-First-clause-after : goal.returns-in-First-clause-after
returns-in-First-clause-after c =
    let inside = c.self.inside in
    reply_kept inside.id inside.handles inside.calls.items inside.table.rows inside.resolver.calls inside.dead inside.limits.items c.in-Answered.reply
    c.in-First.k
    c.self.view_is c.keep.ensures.rows c.told.ensures.calls
    (sym c.in-First.is ∙ c.collected-told.ensures ∙ ap (collect_result c.args.self.now) c.in-Answered.is)
    ∙ ap (after_collect c.args.self.now) (sym c.in-Answered.is)

pub returns-in-Died-clause-after : goal.returns-in-Died-clause-after
returns-in-Died-clause-after c =
    let inside = c.self.inside in
    death_kept inside.id inside.handles inside.calls.items inside.table.rows inside.resolver.calls c.answer_death.new.resolver.calls inside.dead
    inside.limits.items c.in-Death.a
    c.self.view_is c.self.invariant.actors
    (died_listed c.args.self.now c.in-Death.a _ (sym c.in-Died.is ∙ c.collected-told.ensures ∙ ap (collect_result c.args.self.now) c.in-Death.is))
    c.answer_death.ensures.rows c.answer_death.ensures.sent c.number.ensures.value
    ∙ ap (after_collect c.args.self.now) (sym c.in-Death.is)

pub returns-in-Died-clause-known : goal.returns-in-Died-clause-known
returns-in-Died-clause-known c = rw c.in-Death.is (λ listed. dead_known c.self.inside.dead c.number.result c.in-Death.a c.number.ensures.value (omega arith))
