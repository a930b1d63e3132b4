use Rattle.act_walks.proofs.Common.{ap, sym, subst, ◌∙◌, is_some, kept_at, is_caller, IsOwnerOf}
use Rattle.act_walks.proofs.Shown.{no_answer, copied_some}
use Rattle.act_walks.proofs.seen.has_answer.Goals as goal

pub returns-in-None : goal.returns-in-None
returns-in-None g c = λ casts h before behind. no_answer casts h c.args.c c.args.k before behind
    (ap (is_caller c.args.c) behind.is ∙ c.in-None.ensures.reached casts before behind.reached)

pub returns-in-Some : goal.returns-in-Some
returns-in-Some g c = λ casts h before behind.
    let is : IsOwnerOf h c.args.c c.in-Some.owner.now =
    subst (λ h. IsOwnerOf h c.args.c c.in-Some.owner.now) (sym behind.is) (c.in-Some.ensures.reached casts before behind.reached).1 in
    c.is_some.ensures ∙ copied_some c.answer.result ∙ ap (λ o. is_some o) c.answer.ensures
    ∙ ap (λ l. is_some (kept_at l c.args.k)) is.kept
