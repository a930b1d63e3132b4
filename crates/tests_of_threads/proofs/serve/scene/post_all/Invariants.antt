use Rattle.tests_of_threads.proofs.Common.{◌≡◌}
use Rattle.tests_of_threads.proofs.serve.scene.post_all.Given as goal

abbrev pub invariant-loop-from : goal.invariant-loop-from
invariant-loop-from g l = record {
  first : l.first.line ≡ l.initial.first.line;
  first_number : l.first.number ≡ l.initial.first.number;
  other : l.other.line ≡ l.initial.other.line;
  other_number : l.other.number ≡ l.initial.other.number;
}
