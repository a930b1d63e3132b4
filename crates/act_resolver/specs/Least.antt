-- Numbers below a bound, and the least of them.
use Rattle.std.specs.Prelude.{◌≡◌, ℕ, ◌<◌, Bool, true, false, Option, List, slice_index_or, MatchOption}

-- the number is a member, and no lesser one is; where there is none, no number is a member
abbrev pub IsLeast : List Bool → Option ℕ → Type 0
IsLeast members least = MatchOption least
    ((k : ℕ) → slice_index_or members k false ≡ false) (λ r.
    (slice_index_or members r false ≡ true) × ((k : ℕ) → k < r → slice_index_or members k false ≡ false))
