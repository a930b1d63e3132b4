use Rattle.std.proofs.Common.{◌≡◌, length}
use Rattle.tests_of_parts.proofs.resolver.send_in_turn.Given as goal

-- so many calls were entered
abbrev pub invariant-loop-number : goal.invariant-loop-number
invariant-loop-number g l = l.entered ≡ length l.resolver.calls
