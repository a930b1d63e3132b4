use Rattle.std.proofs.Common.{◌≡◌, [], take}
use Rattle.example_bank.proofs.Asking.{Asking}
use Rattle.example_bank.proofs.teller.TellerCode.run.Given as goal

-- the requests so far were submitted, each once, in order
abbrev pub invariant-loop-request : goal.invariant-loop-request
invariant-loop-request g l = (g.S.Session.seen l.fn.session).calls ≡ [] →
    Asking (take l.request-index l.request-items) (g.S.Session.seen l.session) l.futures.items
