use Rattle.act_decisions.proofs.Common.{◌≡◌, ◌<◌, ℕ, Some, slice_get, IsPlacedAt, ToldRun}
use Rattle.act_decisions.proofs.placed.are_placed.Given as goal

-- the runs so far are placed
abbrev pub invariant-loop-p : goal.invariant-loop-p
invariant-loop-p l = (q : ℕ) → q < l.p → (run : ToldRun) → slice_get l.runs q ≡ Some run → IsPlacedAt l.end l.a q run.caller run.future
