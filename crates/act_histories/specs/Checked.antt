-- What a check of a history reads and writes.
use Rattle.std.specs.Prelude.{◌≡◌, ℕ, ◌+◌, true, List, ◌++◌, map, Option, Result, Ok, Err, string_bytes}
use Rattle.std.specs.Io.KnownBytes.{Keeps, Appends}
use Rattle.act_types.specs.declared.limits.TheConstants.{MAX_SCRIPT_BYTES}
use Rattle.act_rules.specs.declared.script.Mode.TheVariants.{Threads}
use Rattle.act_rules.specs.Grammar.{Script, spelled}
use Rattle.act_rules.specs.Scripts.{actor_spec_of}
use Rattle.act_console.specs.Input.{IsWholeInput}
use Rattle.act_console.specs.Output.{AppendsPrefix}
use Rattle.act_histories.specs.declared.fault.CheckFault.{CheckFault}
use Rattle.act_histories.specs.declared.fault.CheckFault.TheVariants as faults
use Rattle.act_histories.specs.declared.check.Verdict.{Verdict}
use Rattle.act_histories.specs.declared.check.Verdict.TheVariants as verdicts
use Rattle.act_decisions.specs.Decided.{EndsNowhere}
use Rattle.act_decisions.specs.Play.{IsPlayText}
use Rattle.act_histories.specs.Cut.{told_part}

-- the lines before the first that tells what was left spell a script for threads
pub record IsHistory (bytes : List ℕ) (script : Script) (rest : List ℕ) : Type 0 where
  pub front : List ℕ
  pub parts : bytes ≡ front ++ rest
  pub told : rest ≡ told_part true bytes
  pub read : spelled Threads front ≡ Ok script

-- the text is a play that ends as the script and the other lines of the history tell
pub record IsPlayOfHistory (bytes text : List ℕ) : Type 0 where
  pub script : Script
  pub rest : List ℕ
  pub read : IsHistory bytes script rest
  pub play : IsPlayText script rest text

-- no events that a script can write end as the script and the other lines of the history tell
pub record HasNoPlay (bytes : List ℕ) : Type 0 where
  pub script : Script
  pub rest : List ℕ
  pub read : IsHistory bytes script rest
  pub nowhere : EndsNowhere (map actor_spec_of script.roles) script.steps rest

-- what is to be written of a history: of a play, that it is one; that none is, only where there is none
abbrev pub IsVerdict : List ℕ → Verdict → Type 0
IsVerdict bytes (verdicts.Play text) = IsPlayOfHistory bytes (string_bytes text)
IsVerdict bytes (verdicts.Refused text) = HasNoPlay bytes
IsVerdict bytes (verdicts.Mistake text) = Unit {0}

-- the same of a script that was read, and the lines after it
abbrev pub IsVerdictOf : Script → List ℕ → Verdict → Type 0
IsVerdictOf script rest (verdicts.Play text) = IsPlayText script rest (string_bytes text)
IsVerdictOf script rest (verdicts.Refused text) = EndsNowhere (map actor_spec_of script.roles) script.steps rest
IsVerdictOf script rest (verdicts.Mistake text) = Unit {0}

-- the fault comes before anything is written
abbrev pub IsBeforeVerdict : CheckFault → Type 0
IsBeforeVerdict faults.Memory = Unit {0}
IsBeforeVerdict faults.Reading = Unit {0}
IsBeforeVerdict fault = ⊥

-- what was written of a verdict, by the answer: its text whole, or a prefix of it
abbrev pub WroteVerdict : Option (List ℕ) → Option (List ℕ) → Verdict → Result (Unit {0}) CheckFault → Type 0
WroteVerdict old new (verdicts.Play text) (Ok done) = Appends old new (string_bytes text)
WroteVerdict old new (verdicts.Play text) (Err faults.Writing) = AppendsPrefix old new (string_bytes text)
WroteVerdict old new (verdicts.Play text) (Err faults.Mistake) = ⊥
WroteVerdict old new (verdicts.Play text) (Err faults.Refused) = ⊥
WroteVerdict old new (verdicts.Play text) (Err faults.Memory) = ⊥
WroteVerdict old new (verdicts.Play text) (Err faults.Reading) = ⊥
WroteVerdict old new (verdicts.Refused text) (Ok done) = ⊥
WroteVerdict old new (verdicts.Refused text) (Err faults.Refused) = Appends old new (string_bytes text)
WroteVerdict old new (verdicts.Refused text) (Err faults.Writing) = AppendsPrefix old new (string_bytes text)
WroteVerdict old new (verdicts.Refused text) (Err faults.Mistake) = ⊥
WroteVerdict old new (verdicts.Refused text) (Err faults.Memory) = ⊥
WroteVerdict old new (verdicts.Refused text) (Err faults.Reading) = ⊥
WroteVerdict old new (verdicts.Mistake text) (Ok done) = ⊥
WroteVerdict old new (verdicts.Mistake text) (Err faults.Mistake) = Appends old new (string_bytes text)
WroteVerdict old new (verdicts.Mistake text) (Err faults.Writing) = AppendsPrefix old new (string_bytes text)
WroteVerdict old new (verdicts.Mistake text) (Err faults.Refused) = ⊥
WroteVerdict old new (verdicts.Mistake text) (Err faults.Memory) = ⊥
WroteVerdict old new (verdicts.Mistake text) (Err faults.Reading) = ⊥

-- what a check read and wrote, by its answer: a play of the history; or, where there is none, a text that tells why
abbrev pub Checked : Option (List ℕ) → Option (List ℕ) → Option (List ℕ) → Option (List ℕ) →
    Result (Unit {0}) CheckFault → Type 0
Checked had left old new (Ok done) =
    (bytes : List ℕ) × IsWholeInput (MAX_SCRIPT_BYTES + 1) had left bytes × (text : List ℕ)
    × IsPlayOfHistory bytes text × Appends old new text
Checked had left old new (Err faults.Mistake) = (text : List ℕ) × Appends old new text
Checked had left old new (Err faults.Refused) =
    (bytes : List ℕ) × IsWholeInput (MAX_SCRIPT_BYTES + 1) had left bytes × HasNoPlay bytes
    × (text : List ℕ) × Appends old new text
Checked had left old new (Err faults.Memory) = Keeps old new
Checked had left old new (Err faults.Reading) = Keeps old new
Checked had left old new (Err faults.Writing) = (text : List ℕ) × AppendsPrefix old new text
