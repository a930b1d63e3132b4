-- What a choice says of its test, and an option or none.
use Rattle.std.proofs.Common.{◌≡◌, Bool, true, false, cond, Option, Some, None, refl}
use Rattle.std.specs.Option.{option_or}

-- where a choice between an option and none gives something, its test passed
pub cond_gives : {A : Type 0} (b : Bool) (o : Option A) {x : A} → cond b o None ≡ Some x → (b ≡ true) × (o ≡ Some x)
cond_gives true o e = (refl, e)
cond_gives false o e = cc

-- where a choice between a value and none gives none, its test failed
pub cond_none : {A : Type 0} (b : Bool) (x : A) → cond b (Some x) None ≡ None → b ≡ false
cond_none true x e = absurd (cc)
cond_none false x e = refl

-- an option, or else none, is that option
pub or_nothing : {A : Type 0} (o : Option A) → option_or o None ≡ o
or_nothing None = refl
or_nothing (Some x) = refl
