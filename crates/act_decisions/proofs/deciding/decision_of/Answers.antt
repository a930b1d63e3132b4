use Rattle.act_decisions.proofs.Common.{◌≤◌, length, map, ap, subst, arith, actor_spec_of, not_so, IfSome, IsBadIn, Refutes}
use Rattle.act_decisions.proofs.Decided.{bad_step_of, ends_so, few_own, nowhere, own_steps}
use Rattle.act_decisions.proofs.deciding.decision_of.Goals as goal

pub returns-then-branch : goal.returns-then-branch
returns-then-branch g c =
    let casts = map actor_spec_of c.args.roles.now in let events = c.args.walked.now.events.items in
    ends_so c.args.end.now c.args.steps.now c.requires.lines casts c.args.rest.now events c.requires.walk.accepted
    (c.requires.walk.does (c.in_ok-ends.ensures.done c.if-branch.true)) (c.in_ok-ends.ensures.matches casts events c.requires.walk.reached c.if-branch.true)

pub bad_plan-requires-clause-short : goal.bad_plan-requires-clause-short
bad_plan-requires-clause-short g c = λ d plan some few bound.
    let own = own_steps c.args.end.now c.args.steps.now c.requires.lines d plan some few bound in
    let long = ap (λ l. length l) own.1 in let short = few_own d c.args.steps.now in let all = c.requires.few in omega (arith, long, short, all)

pub returns-in-Some : goal.returns-in-Some
returns-in-Some g c =
    let casts = map actor_spec_of c.args.roles.now in
    let bad = subst (λ o. IfSome o (λ at. (1 ≤ at.0) × (at.0 ≤ 16) × IsBadIn c.args.end.now casts at.0 at.1)) c.in-Some.is
    c.in_ok-bad.ensures.some in
    bad_step_of c.args.end.now c.args.steps.now c.requires.lines casts _ _ bad.0 bad.1 bad.2

pub returns-then-branch-2 : goal.returns-then-branch-2
returns-then-branch-2 g c =
    let roles = c.args.roles.now in let casts = map actor_spec_of roles in let events = c.args.walked.now.events.items in
    nowhere c.args.end.now c.args.steps.now c.requires.lines roles c.args.rest.now events c.args.walked.now.is_done c.requires.roles c.requires.sayable
    (c.in_ok-bad.ensures.none c.in-None.is) c.requires.walk.decides
    (λ done matches. not_so (c.in_ok-ends.ensures.exact casts events c.requires.walk.reached done matches) c.if-branch.false)
    (subst (λ l. Refutes c.args.end.now roles c.args.rest.now l) c.deref.ensures.value (c.in_ok-refutes-in-None.ensures c.if-branch-2.true))
