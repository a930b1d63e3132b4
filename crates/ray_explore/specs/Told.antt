-- What is written of ends.
use Rattle.std.specs.Prelude.{◌≡◌, ℕ, ◌+◌, ◌⊎◌, List, [], ◌∷◌, ◌++◌, length, Bool, true, false, Option, codes}
use Rattle.std.specs.Io.KnownBytes.{Appends}
use Rattle.act_histories.specs.Checked.{IsPlayOfHistory}

-- a first line, then the end's lines, then a line that says that its play follows, and the play
pub record IsEndText (lines play text : List ℕ) : Type 0 where
  pub head : List ℕ
  pub same : text ≡ ((head ++ lines) ++ codes "play\n") ++ play

-- an end with these lines was written, with a play of the script that ends so
pub record TellsEnd (script lines : List ℕ) (old new : Option (List ℕ)) : Type 0 where
  pub play : List ℕ
  pub text : List ℕ
  pub played : IsPlayOfHistory (script ++ lines) play
  pub shown : IsEndText lines play text
  pub written : Appends old new text

-- the same of an end that is new; of one that was told before nothing was written
abbrev pub TellsNew : List ℕ → List ℕ → Bool → Option (List ℕ) → Option (List ℕ) → Type 0
TellsNew script lines true old new = TellsEnd script lines old new
TellsNew script lines false old new = new ≡ old

-- ends with these lines were written, in this order
abbrev pub TellsEnds : List ℕ → List (List ℕ) → Option (List ℕ) → Option (List ℕ) → Type 0
TellsEnds script [] old new = new ≡ old
TellsEnds script (lines ∷ more) old new = (mid : Option (List ℕ)) × TellsEnd script lines old mid
    × TellsEnds script more mid new

-- so many ends were written
pub record TellsCount (script : List ℕ) (count : ℕ) (old new : Option (List ℕ)) : Type 0 where
  pub ends : List (List ℕ)
  pub counted : length ends ≡ count
  pub told : TellsEnds script ends old new

-- after so many ends, none or one more is written
abbrev pub TellsMore : List ℕ → ℕ → ℕ → Option (List ℕ) → Option (List ℕ) → Type 0
TellsMore script count after old new =
    ((after ≡ count) × (new ≡ old)) ⊎ ((after ≡ count + 1) × (lines : List ℕ) × TellsEnd script lines old new)
