use Rattle.std.proofs.Common.{◌≡◌, length}
use Rattle.tests_of_parts.proofs.resolver.play.Given as goal

-- so many calls were entered
abbrev pub invariant-loop-row : goal.invariant-loop-row
invariant-loop-row g l = l.entered ≡ length l.resolver.calls
