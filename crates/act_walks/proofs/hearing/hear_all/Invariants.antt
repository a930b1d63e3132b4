use Rattle.act_walks.proofs.Common.{Moves, NoTells, parts_of}
use Rattle.act_walks.proofs.hearing.hear_all.Given as goal

-- the deaths of the actors so far were heard
abbrev pub invariant-loop-before : goal.invariant-loop-before
invariant-loop-before g l = Moves l.end (NoTells l.before) (parts_of g.K.Actor.state l.fn.walk) (parts_of g.K.Actor.state l.walk) l.moved
