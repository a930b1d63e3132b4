-- The text of a signed number, by its sign.
use Rattle.act_console.proofs.Common.{◌≡◌, ◌∷◌, true, false, refl, arith, nat_tests, decimal}
use Rattle.std.specs.Prelude.{ℤ, pos, negsuc, unsigned_abs}
use Rattle.std.specs.Int.{is_negative}
use Rattle.std.specs.Fmt.{signed_decimal}

pub signed_below : (z : ℤ) → is_negative z ≡ true → signed_decimal z ≡ 45 ∷ decimal (unsigned_abs z)
signed_below (pos n) e = absurd (grind (arith, nat_tests))
signed_below (negsuc n) e = refl

pub signed_other : (z : ℤ) → is_negative z ≡ false → signed_decimal z ≡ decimal (unsigned_abs z)
signed_other (pos n) e = refl
signed_other (negsuc n) e = absurd (grind (arith, nat_tests))
