-- What is known of the ends that were told so far.
use Rattle.std.specs.Prelude.{◌≡◌, ℕ, true, List, Option, Contains}
use Rattle.std.specs.BTreeSet.{BTreeSet, contains_text}
use Rattle.std.specs.Global.{Global}
use Rattle.std.specs.Prelude.{String}
use Rattle.ray_explore.specs.Told.{TellsEnds}

-- these ends were written, and each that is known is one of them
pub record HasTold (script : List ℕ) (ends : BTreeSet (String Global)) (told : List (List ℕ))
    (old new : Option (List ℕ)) : Type 0 where
  pub tells : TellsEnds script told old new
  pub known : (lines : List ℕ) → contains_text ends lines ≡ true → Contains told lines

-- some ends were told
abbrev pub HasToldSome : List ℕ → BTreeSet (String Global) → Option (List ℕ) → Option (List ℕ) → Type 0
HasToldSome script ends old new = (told : List (List ℕ)) × HasTold script ends told old new

-- where some ends were told, some were told after what was written then
abbrev pub HasToldMore : List ℕ → BTreeSet (String Global) → BTreeSet (String Global) → Option (List ℕ) →
    Option (List ℕ) → Type 0
HasToldMore script ends more old new = (first : Option (List ℕ)) → HasToldSome script ends first old →
    HasToldSome script more first new
