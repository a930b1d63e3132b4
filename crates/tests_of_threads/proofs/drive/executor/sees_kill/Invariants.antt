use Rattle.tests_of_threads.proofs.Common.{◌≡◌}
use Rattle.tests_of_threads.proofs.drive.executor.sees_kill.Given as goal

abbrev pub invariant-loop : goal.invariant-loop
invariant-loop g l = record { line : l.kills.line ≡ l.initial.kills.line; actor : l.kills.actor ≡ l.initial.kills.actor }
