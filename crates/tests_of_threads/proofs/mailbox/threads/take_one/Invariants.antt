use Rattle.tests_of_threads.proofs.Common.{◌≡◌}
use Rattle.tests_of_threads.proofs.mailbox.threads.take_one.Given as goal

abbrev pub invariant-loop : goal.invariant-loop
invariant-loop g l = l.pass ≡ l.initial.pass
