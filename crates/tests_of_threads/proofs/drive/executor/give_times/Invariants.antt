use Rattle.tests_of_threads.proofs.Common.{◌≡◌, All, IsPrefix, IsNoDeath}
use Rattle.tests_of_threads.proofs.drive.executor.give_times.Given as goal

abbrev pub invariant-loop : goal.invariant-loop
invariant-loop g l = record {
  line : l.gives.line ≡ l.initial.gives.line;
  actor : l.gives.actor ≡ l.initial.gives.actor;
  grown : IsPrefix l.gives.seen l.live.log;
  alive : All IsNoDeath l.gives.given;
}
