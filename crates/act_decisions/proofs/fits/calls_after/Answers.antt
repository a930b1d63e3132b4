use Rattle.act_decisions.proofs.Common.{◌≡◌, ◌==◌, true, ◌∙◌, ap, subst, rules, tests, map, call_of, IsNext, submission_of_call}
use Rattle.act_decisions.proofs.Calls.{front_more, of_own}
use Rattle.act_decisions.proofs.fits.calls_after.Goals as goal

pub returns-then-has_call : goal.returns-then-has_call
returns-then-has_call c = λ line.
    let own : (c.args.caller == c.args.c) ≡ true = search (rules, tests) in
    front_more _ _ _ _
    (subst (λ args. IsNext c.args.told c.in-Submit.actor c.in-Submit.method args (map submission_of_call c.args.calls.now)) c.as_slice.ensures
    (c.has_call.ensures c.if-has_call.true))
    (ap (λ s. call_of c.args.c (c.args.caller, s, line)) c.in-Submit.is ∙ of_own c.args.c c.args.caller line _ _ _ own)
