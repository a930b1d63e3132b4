use Rattle.act_walks.proofs.Common.{◌≡◌, ℕ, ◌<◌, true, Some, slice_get, ToldCall, lets_hear}
use Rattle.act_walks.proofs.hearing.all_let_hear.Given as goal

-- each of the calls so far does
abbrev pub invariant-loop-place : goal.invariant-loop-place
invariant-loop-place l = (k : ℕ) (call : ToldCall) → k < l.place → slice_get l.calls k ≡ Some call → lets_hear l.a l.owner.kept k call ≡ true
