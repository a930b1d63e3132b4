use Rattle.act_decisions.proofs.Common.{◌≡◌, take, map, Good}
use Rattle.act_decisions.proofs.answers.values_of.Given as goal

-- the arguments so far are good, and these are their values
abbrev pub invariant-loop-arg : goal.invariant-loop-arg
invariant-loop-arg l = take l.arg-index l.args ≡ map Good l.values
