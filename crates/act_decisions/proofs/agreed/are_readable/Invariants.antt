use Rattle.act_decisions.proofs.Common.{All, take, IsReadable}
use Rattle.act_decisions.proofs.agreed.are_readable.Given as goal

-- the arguments so far can be read back
abbrev pub invariant-loop-arg : goal.invariant-loop-arg
invariant-loop-arg l = All IsReadable (take l.arg-index l.args)
