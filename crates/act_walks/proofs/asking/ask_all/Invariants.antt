use Rattle.act_walks.proofs.Common.{◌+◌, parts_of, AsksFrom}
use Rattle.act_walks.proofs.asking.ask_all.Given as goal

-- the actors so far were asked
abbrev pub invariant-loop-before : goal.invariant-loop-before
invariant-loop-before g l = AsksFrom l.end 1 (l.before + 1) (parts_of g.K.Actor.state l.fn.walk) (parts_of g.K.Actor.state l.walk)
