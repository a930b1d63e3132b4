use Rattle.act_decisions.proofs.Common.{◌<◌, ℕ, List, ActorSpec, ToldRun, AreAnswers, IsRunIn, TakesNone}
use Rattle.act_decisions.proofs.lost.no_value_is_lost.Given as goal

-- the runs of the actors so far take none
abbrev pub invariant-loop-b : goal.invariant-loop-b
invariant-loop-b l = (a : ℕ) → a < l.b → (q : ℕ) (run : ToldRun) → IsRunIn l.end a q run → (casts : List ActorSpec) → AreAnswers casts l.end l.all
    → TakesNone casts l.end run
