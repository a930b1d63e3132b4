use Rattle.act_decisions.proofs.Answering.{AreSoFar}
use Rattle.act_decisions.proofs.answers.answers_by.Given as goal

-- the answers so far
abbrev pub invariant-loop-run : goal.invariant-loop-run
invariant-loop-run g l = AreSoFar (g.K.Actor.state l.fn.kind) l.runs l.run-index l.answers.items (g.K.Actor.state l.kind)
