use Rattle.act_decisions.proofs.Common.{◌<◌, ℕ, IsPlacedAt, ToldRun, IsRunIn}
use Rattle.act_decisions.proofs.placed.runs_are_placed.Given as goal

-- the runs of the actors so far are placed
abbrev pub invariant-loop-a : goal.invariant-loop-a
invariant-loop-a l = (b : ℕ) → b < l.a → (p : ℕ) (run : ToldRun) → IsRunIn l.end b p run → IsPlacedAt l.end b p run.caller run.future
