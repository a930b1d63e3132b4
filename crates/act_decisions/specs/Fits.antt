-- When what was read fits the roles and the steps of its script.
use Rattle.std.specs.Prelude.{◌≡◌, ◌≤◌, ◌<◌, ◌==◌, ◌∷◌, ℕ, true, false, if◌then◌else◌, List, [], length, map, take, find, Option, Some, None}
use Rattle.act_types.specs.declared.limits.TheConstants.{ACTOR_NUMBERS, MAX_CALLERS}
use Rattle.act_rules.specs.declared.script.Role.{Role}
use Rattle.act_rules.specs.declared.script.Step.{Step}
use Rattle.act_rules.specs.History.{callers_in}
use Rattle.act_rules.specs.Scripts.{actor_spec_of}
use Rattle.act_console.specs.Plans.{steps_of_caller}
use Rattle.act_walks.specs.declared.told.ToldCaller.{ToldCaller}
use Rattle.act_walks.specs.declared.told.ToldEnd.{ToldEnd}
use Rattle.act_walks.specs.Fits.{caller_in, callers_of, steps_in, submission_of_call}
use Rattle.act_decisions.specs.Play.{awaits, calls_of_steps}

-- the caller's own steps begin with these
abbrev pub own_step : ℕ → ℕ × Step × ℕ → List Step
own_step c s = if s.0 == c then s.1 ∷ [] else []

-- the first of the steps, so many, are these
pub record StartsWith (count : ℕ) (front steps : List Step) : Type 0 where
  pub within : count ≤ length steps
  pub same : take count steps ≡ front

-- the steps that bind a caller: all that it has, where it awaits an answer
abbrev pub binding : ℕ → List (ℕ × Step × ℕ) → Option (List Step)
binding c steps = if awaits c steps then Some (steps_of_caller c steps) else None

-- a caller has the calls that its steps submit, if they submit any, and is bound to its steps where it awaits an answer
pub record FitsSteps (c : ℕ) (steps : List (ℕ × Step × ℕ)) (caller : ToldCaller) : Type 0 where
  pub told : caller.has_lines ≡ true → map submission_of_call caller.calls.items ≡ calls_of_steps c steps
  pub untold : caller.has_lines ≡ false → calls_of_steps c steps ≡ []
  pub bound : steps_in caller ≡ binding c steps
  pub lined : awaits c steps ≡ true → caller.has_lines ≡ true

-- each caller does
abbrev pub AllFitSteps : ToldEnd → List (ℕ × Step × ℕ) → Type 0
AllFitSteps end steps = (c : ℕ) → 1 ≤ c → c ≤ MAX_CALLERS →
    (caller : ToldCaller) × (caller_in end c ≡ Some caller) × FitsSteps c steps caller

-- each actor has the callers that its role names, and none where it has no role
abbrev pub AllFitRoles : ToldEnd → List Role → Type 0
AllFitRoles end roles = (length end.actors.items ≤ ACTOR_NUMBERS) × ((a : ℕ) → a < ACTOR_NUMBERS →
    callers_of end a ≡ callers_in (find (λ cast. cast.actor == a) (map actor_spec_of roles)))
