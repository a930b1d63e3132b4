use Rattle.act_walks.proofs.Common.{Moves, NoServings, parts_of}
use Rattle.act_walks.proofs.serving.serve_all.Given as goal

-- the actors so far went on as far as they could
abbrev pub invariant-loop-before : goal.invariant-loop-before
invariant-loop-before g l = Moves l.end (NoServings l.before) (parts_of g.K.Actor.state l.fn.walk) (parts_of g.K.Actor.state l.walk) l.moved
