use Rattle.act_walks.proofs.Common.{◌≡◌, true, ap, sym, ◌∙◌, subst, is_caller, length, ◌≤◌, IsOwnerOf, AllLetHear}
use Rattle.act_walks.proofs.Deaths.{not_shown, no_caller, not_named, knows, hears_by}
use Rattle.act_walks.proofs.hearing.may_tell.Goals as goal

pub returns-then-not-is_dead : goal.returns-then-not-is_dead
returns-then-not-is_dead g c = λ casts h before behind. not_shown c.args.end.now c.args.c c.args.a h behind (sym c.is_dead.ensures ∙ c.if-not-is_dead.true)

pub returns-in_default : goal.returns-in_default
returns-in_default g c = λ casts h before behind.
    no_caller c.args.end.now c.args.c c.args.a h (ap (is_caller c.args.c) behind.is ∙ c.in_default.ensures.reached casts before behind.reached)

pub returns-then-not-is_listed : goal.returns-then-not-is_listed
returns-then-not-is_listed g c = λ casts h before behind.
    let is : IsOwnerOf h c.args.c c.in-Some.owner.now =
    subst (λ h. IsOwnerOf h c.args.c c.in-Some.owner.now) (sym behind.is) (c.in-Some.ensures.reached casts before behind.reached).1 in
    not_named c.args.end.now c.args.c c.args.a h is (sym c.is_listed.ensures ∙ c.if-not-is_listed.true)

pub returns-then-is_dead : goal.returns-then-is_dead
returns-then-is_dead g c = λ casts h before behind.
    let is : IsOwnerOf h c.args.c c.in-Some.owner.now =
    subst (λ h. IsOwnerOf h c.args.c c.in-Some.owner.now) (sym behind.is) (c.in-Some.ensures.reached casts before behind.reached).1 in
    knows c.args.end.now c.args.c c.args.a h c.in-Some.owner.now is (sym c.is_dead-2.ensures ∙ c.if-is_dead.true)

pub returns : goal.returns
returns g c = λ casts h before behind.
    let is : IsOwnerOf h c.args.c c.in-Some.owner.now =
    subst (λ h. IsOwnerOf h c.args.c c.in-Some.owner.now) (sym behind.is) (c.in-Some.ensures.reached casts before behind.reached).1 in
    hears_by c.args.end.now c.args.c c.args.a h c.all_let_hear.result is (sym c.is_dead-2.ensures ∙ c.if-is_dead.false)
    (subst (λ l. length l ≤ 65536 → (c.all_let_hear.result ≡ true → AllLetHear c.args.a c.in-Some.owner.now.kept l) ×
    (AllLetHear c.args.a c.in-Some.owner.now.kept l → c.all_let_hear.result ≡ true)) c.calls_of.ensures c.all_let_hear.ensures)
