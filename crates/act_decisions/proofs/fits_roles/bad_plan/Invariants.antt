use Rattle.act_decisions.proofs.Common.{◌≡◌, ◌≤◌, ℕ, List, map, Some, None, Step, actor_spec_of, bound_of, actors_naming, first_bad}
use Rattle.act_decisions.proofs.fits_roles.bad_plan.Given as goal

-- the rules refuse no step of the callers so far
abbrev pub invariant-loop-before : goal.invariant-loop-before
invariant-loop-before l = (c : ℕ) (plan : List Step) → 1 ≤ c → c ≤ l.before → bound_of l.end c ≡ Some plan →
    first_bad (actors_naming c (map actor_spec_of l.roles)) plan ≡ None
