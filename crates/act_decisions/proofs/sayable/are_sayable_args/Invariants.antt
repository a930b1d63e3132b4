use Rattle.act_decisions.proofs.Common.{◌≡◌, true, take, list_all, is_sayable_arg}
use Rattle.act_decisions.proofs.sayable.are_sayable_args.Given as goal

-- the arguments so far can be written
abbrev pub invariant-loop-arg : goal.invariant-loop-arg
invariant-loop-arg l = list_all is_sayable_arg (take l.arg-index l.args) ≡ true
