use Rattle.act_decisions.proofs.Common.{◌≡◌, ◌==◌, ◌++◌, true, ◌∙◌, sym, ap, subst, take, rules, tests, BeginsWith, call_of, IsNext}
use Rattle.act_decisions.proofs.Calls.{front_more, next_from, of_own}
use Rattle.act_decisions.proofs.compared.told_after.Goals as goal

pub returns-then-has_call-clause-begins : goal.returns-then-has_call-clause-begins
returns-then-has_call-clause-begins c = λ line.
    let own : (c.args.caller == c.args.c) ≡ true = search (rules, tests) in
    front_more _ _ _ _
    (subst (λ args. IsNext c.args.told c.in-Submit.actor c.in-Submit.method args c.args.owner.now.calls) c.as_slice.ensures
    (c.has_call.ensures.next c.if-has_call.true))
    (ap (λ s. call_of c.args.c (c.args.caller, s, line)) c.in-Submit.is ∙ of_own c.args.c c.args.caller line _ _ _ own)

pub returns-else-has_call-clause-exact : goal.returns-else-has_call-clause-exact
returns-else-has_call-clause-exact c = λ line next begins none.
    let own : (c.args.caller == c.args.c) ≡ true = search (rules, tests) in let calls = c.args.owner.now.calls in
    let is = ap (λ s. call_of c.args.c (c.args.caller, s, line)) c.in-Submit.is
    ∙ of_own c.args.c c.args.caller line c.in-Submit.actor c.in-Submit.method c.in-Submit.args own in
    let there = next_from calls c.args.told next c.in-Submit.actor c.in-Submit.method c.in-Submit.args c.requires
    (subst (λ l. BeginsWith next (take c.args.told calls ++ l) calls) is begins) in
    cc (
      c.if-has_call.false,
      c.has_call.ensures.exact (subst (λ args. IsNext c.args.told c.in-Submit.actor c.in-Submit.method args calls) (sym c.as_slice.ensures) there),
    )
