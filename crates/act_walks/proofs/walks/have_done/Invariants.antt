use Rattle.act_walks.proofs.Wholly.{HaveDoneTo}
use Rattle.act_walks.proofs.walks.have_done.Given as goal

-- the callers so far did
abbrev pub invariant-loop-number : goal.invariant-loop-number
invariant-loop-number l = HaveDoneTo l.end l.done l.number
