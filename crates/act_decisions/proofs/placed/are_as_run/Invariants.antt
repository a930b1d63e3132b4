use Rattle.act_decisions.proofs.Common.{◌≡◌, map, take, arg_as_run}
use Rattle.act_decisions.proofs.placed.are_as_run.Given as goal

-- the arguments so far are
abbrev pub invariant-loop-p : goal.invariant-loop-p
invariant-loop-p l = take l.p l.args ≡ map arg_as_run (take l.p l.ran)
