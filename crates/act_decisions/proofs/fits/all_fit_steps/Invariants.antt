use Rattle.act_decisions.proofs.Common.{◌≡◌, ◌≤◌, ℕ, Some, caller_in, ToldCaller, FitsSteps}
use Rattle.act_decisions.proofs.fits.all_fit_steps.Given as goal

-- the callers so far fit
abbrev pub invariant-loop-before : goal.invariant-loop-before
invariant-loop-before l = (c : ℕ) → 1 ≤ c → c ≤ l.before → (caller : ToldCaller) × (caller_in l.end c ≡ Some caller) × FitsSteps c l.steps caller
