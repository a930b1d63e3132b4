use Rattle.tests_of_threads.proofs.Common.{◌≡◌, All, IsPrefix, IsNoDeath}
use Rattle.tests_of_threads.proofs.drive.executor.attend.Given as goal

abbrev pub invariant-loop : goal.invariant-loop
invariant-loop g l = record {
  letters : l.passes.letters.line ≡ l.initial.passes.letters.line;
  kills : l.passes.kills.line ≡ l.initial.passes.kills.line;
  asked : l.passes.kills.actor ≡ l.initial.passes.kills.actor;
  gives : l.passes.gives.line ≡ l.initial.passes.gives.line;
  given : l.passes.gives.actor ≡ l.initial.passes.gives.actor;
  id : l.live.id ≡ l.initial.live.id;
  grown : IsPrefix l.passes.gives.seen l.live.log;
  alive : All IsNoDeath l.passes.gives.given;
}
