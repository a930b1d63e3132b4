-- What a writer holds of a history.
use Rattle.std.specs.Prelude.{◌≡◌, ℕ, List, ◌++◌, Option, Some, None, Result, Ok, Err}
use Rattle.std.specs.Io.KnownBytes.{Appends}
use Rattle.act_written.specs.declared.fault.WriteFault.{WriteFault}
use Rattle.act_written.specs.declared.fault.WriteFault.TheVariants.{Memory, Writing}

-- known bytes grow by a prefix of a text
abbrev pub AppendsPrefix : Option (List ℕ) → Option (List ℕ) → List ℕ → Type 0
AppendsPrefix None new text = Unit {0}
AppendsPrefix (Some xs) None text = ⊥
AppendsPrefix (Some xs) (Some ys) text = (front rest : List ℕ) × (text ≡ front ++ rest) × (ys ≡ xs ++ front)

-- the text was written whole; or a prefix of it, where a write failed; or nothing, where memory was refused
abbrev pub Wrote : Option (List ℕ) → Option (List ℕ) → List ℕ → Result (Unit {0}) WriteFault → Type 0
Wrote old new text (Ok done) = Appends old new text
Wrote old new text (Err Memory) = new ≡ old
Wrote old new text (Err Writing) = AppendsPrefix old new text
