use Rattle.tests_of_threads.proofs.Common.{◌≡◌}
use Rattle.tests_of_threads.proofs.mailbox.full_control.assert_kills_taken.Given as goal

abbrev pub invariant-loop-count : goal.invariant-loop-count
invariant-loop-count g l = (l.executor.line ≡ l.initial.executor.line) × (l.executor.actor ≡ l.initial.executor.actor) × (l.pass.line ≡ l.initial.pass.line)
