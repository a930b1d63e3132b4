use Rattle.tests_of_threads.proofs.Common.{◌≡◌}
use Rattle.tests_of_threads.proofs.drive.executor.take_one.Given as goal

abbrev pub invariant-loop : goal.invariant-loop
invariant-loop g l = record { line : l.letters.line ≡ l.initial.letters.line; live : l.live ≡ record l.initial.live { inbox = l.live.inbox } }
