use Rattle.act_decisions.proofs.Common.{◌≡◌, ◌<◌, ℕ, List, Some, slice_get, ActorSpec, ToldRun, AreAnswers, TakesNone}
use Rattle.act_decisions.proofs.lost.take_none.Given as goal

-- the runs so far take none
abbrev pub invariant-loop-q : goal.invariant-loop-q
invariant-loop-q l = (j : ℕ) → j < l.q → (run : ToldRun) → slice_get l.runs j ≡ Some run → (casts : List ActorSpec) → AreAnswers casts l.end l.all
    → TakesNone casts l.end run
