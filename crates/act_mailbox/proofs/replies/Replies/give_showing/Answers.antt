use Rattle.std.proofs.Common.{All, subst, sym, ap, ◌∙◌}
use Rattle.act_rules.specs.Consistent.{IsPrefix}
use Rattle.act_mailbox.specs.Notices.{IsNoDeath}
use Rattle.act_mailbox.proofs.GivenMore.{pass_given_more}
use Rattle.act_mailbox.proofs.replies.Replies.give_showing.Goals as goal

pub invariant_of-pass : goal.invariant_of-pass
invariant_of-pass g c = pass_given_more _ _ _ _ _ _ _ c.put.ensures.ok c.put.ensures.err c.pass.invariant (c.requires.actor ∙
    sym (ap (λ v. v.actor) c.pass.view_is)) (subst (λ seen. IsPrefix seen g.N.Labelled.label) (sym (ap (λ v. v.seen) c.pass.view_is)) c.requires.grown)
    c.requires.place (subst (λ l. All IsNoDeath l) (sym (ap (λ v. v.given) c.pass.view_is)) c.requires.alive)
