use Rattle.act_walks.proofs.Common.{GoesOn, parts_of}
use Rattle.act_walks.proofs.going.go.Given as goal

-- the walk went on
abbrev pub invariant-loop : goal.invariant-loop
invariant-loop g l = GoesOn l.end (parts_of g.K.Actor.state l.fn.walk) (parts_of g.K.Actor.state l.walk)
