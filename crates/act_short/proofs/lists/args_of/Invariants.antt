use Rattle.std.proofs.Common.{◌≡◌, map, take}
use Rattle.act_short.specs.Short.{number_arg}
use Rattle.act_short.proofs.lists.args_of.Given as goal

-- the numbers so far are arguments
abbrev pub invariant-loop-number : goal.invariant-loop-number
invariant-loop-number l = l.args ≡ map number_arg (take l.number-index l.numbers)
