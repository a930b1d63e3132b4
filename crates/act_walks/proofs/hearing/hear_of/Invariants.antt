use Rattle.act_walks.proofs.Common.{Moves, NoTellsOf, parts_of}
use Rattle.act_walks.proofs.hearing.hear_of.Given as goal

-- the callers so far heard of the death, if they may
abbrev pub invariant-loop-before : goal.invariant-loop-before
invariant-loop-before g l = Moves l.end (NoTellsOf l.before l.a) (parts_of g.K.Actor.state l.fn.walk) (parts_of g.K.Actor.state l.walk) l.moved
