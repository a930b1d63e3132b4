-- What a writer holds.
use Rattle.std.specs.Prelude.{◌≡◌, ℕ, List, ◌++◌, Option, Some, None, Result, Ok, Err, string_bytes}
use Rattle.std.specs.Io.KnownBytes.{Appends}
use Rattle.act_console.specs.declared.streams.Output.{Output}
use Rattle.act_console.specs.declared.streams.Output.TheVariants.{Report, Refusal}
use Rattle.act_console.specs.declared.fault.ConsoleFault.{ConsoleFault}
use Rattle.act_console.specs.declared.fault.ConsoleFault.TheVariants as faults

-- known bytes grow by a prefix of bs
abbrev pub AppendsPrefix : Option (List ℕ) → Option (List ℕ) → List ℕ → Type 0
AppendsPrefix None new bs = Unit {0}
AppendsPrefix (Some xs) None bs = ⊥
AppendsPrefix (Some xs) (Some ys) bs = (front rest : List ℕ) × (bs ≡ front ++ rest) × (ys ≡ xs ++ front)

-- the fault comes before anything is written
abbrev pub IsBeforeWriting : ConsoleFault → Type 0
IsBeforeWriting faults.Memory = Unit {0}
IsBeforeWriting faults.Reading = Unit {0}
IsBeforeWriting fault = ⊥

-- what was written of an answer: a report whole, and a refusal whole, which is then told as the script's fault; or a
-- prefix of either
abbrev pub Wrote : Option (List ℕ) → Option (List ℕ) → Output → Result (Unit {0}) ConsoleFault → Type 0
Wrote old new (Report text) (Ok done) = Appends old new (string_bytes text)
Wrote old new (Report text) (Err faults.Writing) = AppendsPrefix old new (string_bytes text)
Wrote old new (Report text) (Err faults.Script) = ⊥
Wrote old new (Report text) (Err faults.Memory) = ⊥
Wrote old new (Report text) (Err faults.Thread) = ⊥
Wrote old new (Report text) (Err faults.Reading) = ⊥
Wrote old new (Refusal text) (Ok done) = ⊥
Wrote old new (Refusal text) (Err faults.Script) = Appends old new (string_bytes text)
Wrote old new (Refusal text) (Err faults.Writing) = AppendsPrefix old new (string_bytes text)
Wrote old new (Refusal text) (Err faults.Memory) = ⊥
Wrote old new (Refusal text) (Err faults.Thread) = ⊥
Wrote old new (Refusal text) (Err faults.Reading) = ⊥
