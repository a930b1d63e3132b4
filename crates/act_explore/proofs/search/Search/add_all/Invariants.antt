use Rattle.act_explore.proofs.Common.{take, left_of, HasAdded}
use Rattle.act_explore.proofs.search.Search.add_all.Given as goal

-- the choices so far are known to go on
abbrev pub invariant-loop-choice : goal.invariant-loop-choice
invariant-loop-choice l = HasAdded l.path (take l.choice-index l.choices) (left_of l.initial.self) (left_of l.self)
