use Rattle.act_decisions.proofs.Common.{◌≡◌, ◌<◌, ℕ, List, Some, slice_get, ActorSpec, Settled, AreAnswers, TakesNoValue}
use Rattle.act_decisions.proofs.lost.takes_none.Given as goal

-- the arguments so far take none
abbrev pub invariant-loop-i : goal.invariant-loop-i
invariant-loop-i l = (j : ℕ) → j < l.i → (arg : Settled) → slice_get l.run.args j ≡ Some arg → (casts : List ActorSpec) → AreAnswers casts l.end l.all
    → TakesNoValue casts l.end l.run.caller arg
