use Rattle.tests_of_threads.proofs.Common.{◌≡◌}
use Rattle.tests_of_threads.proofs.mailbox.executor.take_kill.Given as goal

abbrev pub invariant-loop : goal.invariant-loop
invariant-loop g l = (l.pass.line ≡ l.initial.pass.line) × (l.pass.actor ≡ l.initial.pass.actor)
