-- What a comparison says of the one turned round.
use Rattle.std.proofs.Common.{◌≡◌, true, false, ℤ, int_lt, int_le, arith}

pub at_least : (a b : ℤ) → int_lt b a ≡ false → int_le a b ≡ true
at_least a b h = grind (arith, h)

pub too_few : (a b : ℤ) → int_lt b a ≡ true → int_le a b ≡ false
too_few a b h = grind (arith, h)
