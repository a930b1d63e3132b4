use Rattle.act_owner.proofs.Common.{◌≡◌, ◌≤◌, length, take, futures_of_args}
use Rattle.act_owner.proofs.owner.futures_of.Given as goal

-- the futures among the arguments so far
abbrev pub invariant-loop-arg : goal.invariant-loop-arg
invariant-loop-arg l = record { futures : l.futures ≡ futures_of_args (take l.arg-index l.arg-items); few : length l.futures ≤ l.arg-index }
