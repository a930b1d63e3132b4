use Rattle.tests_of_threads.proofs.Common.{◌≡◌}
use Rattle.tests_of_threads.proofs.mailbox.threads.post_all.Given as goal

abbrev pub invariant-loop-number : goal.invariant-loop-number
invariant-loop-number g l = (l.pass.line ≡ l.initial.pass.line) × (l.pass.number ≡ l.initial.pass.number)
