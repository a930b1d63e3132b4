use Rattle.example_callers.proofs.Common.{◌≡◌, [], HasFailed}
use Rattle.example_callers.proofs.retry.RetryCode.run.Given as goal

-- each try so far failed
abbrev pub invariant-loop : goal.invariant-loop
invariant-loop g l = (g.S.Session.seen l.fn.session).calls ≡ [] → HasFailed l.fn.self l.counter (g.S.Session.seen l.session)
