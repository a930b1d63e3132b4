-- A place, or none, as one number.
use Rattle.std.specs.Prelude.{ℕ, zero, suc, Option, Some, None}

-- one more than the place, and zero for none
abbrev pub number_of : Option ℕ → ℕ
number_of None = zero
number_of (Some place) = suc place

abbrev pub link_of : ℕ → Option ℕ
link_of zero = None
link_of (suc place) = Some place
