use Rattle.act_decisions.proofs.Common.{map, actor_spec_of}
use Rattle.act_decisions.proofs.Answering.{AreAnswersTo}
use Rattle.act_decisions.proofs.answers.all_answers.Given as goal

-- those of the actors so far
abbrev pub invariant-loop-a : goal.invariant-loop-a
invariant-loop-a l = AreAnswersTo (map actor_spec_of l.roles) l.end l.a l.all.items
