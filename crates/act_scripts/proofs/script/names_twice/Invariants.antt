use Rattle.act_scripts.proofs.Common.{◌≡◌, drop, has_twice}
use Rattle.act_scripts.proofs.script.names_twice.Given as goal

abbrev pub invariant-loop-at : goal.invariant-loop-at
invariant-loop-at l = has_twice (drop l.at l.callers) ≡ has_twice l.callers
