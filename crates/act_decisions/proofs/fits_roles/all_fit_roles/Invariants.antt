use Rattle.act_decisions.proofs.Common.{◌≡◌, ◌<◌, ◌==◌, ℕ, map, actor_spec_of, find, callers_in, callers_of}
use Rattle.act_decisions.proofs.fits_roles.all_fit_roles.Given as goal

-- the actors so far have the callers that their roles name
abbrev pub invariant-loop-a : goal.invariant-loop-a
invariant-loop-a l = (b : ℕ) → b < l.a → callers_of l.end b ≡ callers_in (find (λ cast. cast.actor == b) (map actor_spec_of l.roles))
