use Rattle.act_walks.proofs.Common.{ap, sym, subst, ◌∙◌, length, is_caller, IsOwnerOf}
use Rattle.act_walks.proofs.Shown.{no_calls}
use Rattle.act_walks.proofs.seen.count_calls.Goals as goal

pub returns-in-None : goal.returns-in-None
returns-in-None g c = λ casts h before behind. ap (λ l. length l)
    (sym (no_calls casts h c.args.c behind (ap (is_caller c.args.c) behind.is ∙ c.in-None.ensures.reached casts before behind.reached)))

pub returns-in-Some : goal.returns-in-Some
returns-in-Some g c = λ casts h before behind.
    let is : IsOwnerOf h c.args.c c.in-Some.owner.now =
    subst (λ h. IsOwnerOf h c.args.c c.in-Some.owner.now) (sym behind.is) (c.in-Some.ensures.reached casts before behind.reached).1 in
    c.count.ensures.value ∙ ap (λ l. length l) is.calls
