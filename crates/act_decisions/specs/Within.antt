-- When nothing is told of numbers that no caller and no actor has.
use Rattle.std.specs.Prelude.{◌≡◌, ◌≤◌, ◌⊎◌, ℕ, false, [], None}
use Rattle.act_types.specs.declared.limits.TheConstants.{MAX_ACTORS, MAX_CALLERS}
use Rattle.act_walks.specs.declared.told.ToldEnd.{ToldEnd}
use Rattle.act_walks.specs.Fits.{bound_of, calls_in, callers_of, rans_in, is_dead_in, is_retired_in}

-- calls are told of callers alone, and runs and ends of actors that have callers
pub record IsOfNumbers (end : ToldEnd) : Type 0 where
  pub callers : (c : ℕ) → (1 ≤ c) × (c ≤ MAX_CALLERS) ⊎ (calls_in end c ≡ []) × (bound_of end c ≡ None)
  pub actors : (a : ℕ) → (1 ≤ a) × (a ≤ MAX_ACTORS) ⊎ (callers_of end a ≡ [])
  pub runs : (a : ℕ) → callers_of end a ≡ [] → rans_in end a ≡ []
  pub dead : (a : ℕ) → callers_of end a ≡ [] → is_dead_in end a ≡ false
  pub retired : (a : ℕ) → callers_of end a ≡ [] → is_retired_in end a ≡ false
