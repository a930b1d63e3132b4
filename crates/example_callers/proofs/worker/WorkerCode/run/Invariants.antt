use Rattle.std.proofs.Common.{◌≡◌, []}
use Rattle.example_callers.proofs.Works.{AtWork}
use Rattle.example_callers.proofs.worker.WorkerCode.run.Given as goal

-- it was given a job in each turn so far
abbrev pub invariant-loop-jobs : goal.invariant-loop-jobs
invariant-loop-jobs g l = (g.S.Session.seen l.fn.session).calls ≡ [] → AtWork l.fn.self l.jobs (g.S.Session.seen l.session)
