use Rattle.std.proofs.Common.{◌≡◌, length}
use Rattle.tests_of_parts.proofs.resolver.take_random.Given as goal

-- so many calls were entered
abbrev pub invariant-loop : goal.invariant-loop
invariant-loop g l = l.entered ≡ length l.resolver.calls
