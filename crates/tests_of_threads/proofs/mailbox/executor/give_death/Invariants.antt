use Rattle.tests_of_threads.proofs.Common.{◌≡◌}
use Rattle.tests_of_threads.proofs.mailbox.executor.give_death.Given as goal

abbrev pub invariant-loop : goal.invariant-loop
invariant-loop g l = l.pass ≡ l.initial.pass
