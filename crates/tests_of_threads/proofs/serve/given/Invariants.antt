use Rattle.tests_of_threads.proofs.Common.{◌≡◌}
use Rattle.tests_of_threads.proofs.serve.given.Given as goal

abbrev pub invariant-loop : goal.invariant-loop
invariant-loop g l = l.collector.line ≡ l.initial.collector.line
