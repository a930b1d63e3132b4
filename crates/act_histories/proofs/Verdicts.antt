-- What was read, played and written of a history.
use Rattle.act_histories.proofs.Common.{◌≡◌, ℕ, ◌+◌, true, List, ◌++◌, Option, Result, Ok, Err, IfOk, string_bytes, Threads, Checked, IsVerdict, IsVerdictOf}
use Rattle.act_histories.proofs.Common.{WroteVerdict, told_part}
use Rattle.act_types.specs.declared.limits.TheConstants.{MAX_SCRIPT_BYTES}
use Rattle.act_rules.specs.Grammar.{Script, spelled}
use Rattle.act_console.specs.Input.{IsWholeInput}
use Rattle.act_histories.specs.declared.check.Verdict.{Verdict}
use Rattle.act_histories.specs.declared.fault.CheckFault.{CheckFault}
use Rattle.act_histories.specs.declared.fault.CheckFault.TheVariants as faults
use Rattle.act_histories.specs.declared.check.Verdict.TheVariants as verdicts

-- ---- a play

-- ---- a verdict

-- the verdict of the script and the other lines is that of all
pub of_parts : {bytes : List ℕ} (front rest : List ℕ) {script : Script} (verdict : Verdict) → bytes ≡ front ++ rest → rest ≡ told_part true bytes →
    spelled Threads front ≡ Ok script → IsVerdictOf script rest verdict → IsVerdict bytes verdict
of_parts front rest {script} (verdicts.Play text) parts told read is =
    record { script = script; rest = rest; read = record { front = front; parts = parts; told = told; read = read }; play = is }
of_parts front rest {script} (verdicts.Refused text) parts told read is =
    record { script = script; rest = rest; read = record { front = front; parts = parts; told = told; read = read }; nowhere = is }
of_parts front rest (verdicts.Mistake text) parts told read is = tt

-- ---- what was written

module _ (had left old new : Option (List ℕ)) (bytes : List ℕ) (whole : IsWholeInput (MAX_SCRIPT_BYTES + 1) had left bytes) where
  pub written : (verdict : Verdict) (result : Result (Unit {0}) CheckFault) → IsVerdict bytes verdict → WroteVerdict old new verdict result
      → Checked had left old new result
  written (verdicts.Play text) (Ok done) is wrote = (bytes, whole, string_bytes text, is, wrote)
  written (verdicts.Play text) (Err faults.Writing) is wrote = (string_bytes text, wrote)
  written (verdicts.Play text) (Err faults.Mistake) is wrote = absurd wrote
  written (verdicts.Play text) (Err faults.Refused) is wrote = absurd wrote
  written (verdicts.Play text) (Err faults.Memory) is wrote = absurd wrote
  written (verdicts.Play text) (Err faults.Reading) is wrote = absurd wrote
  written (verdicts.Refused text) (Ok done) is wrote = absurd wrote
  written (verdicts.Refused text) (Err faults.Refused) is wrote = (bytes, whole, is, string_bytes text, wrote)
  written (verdicts.Refused text) (Err faults.Writing) is wrote = (string_bytes text, wrote)
  written (verdicts.Refused text) (Err faults.Mistake) is wrote = absurd wrote
  written (verdicts.Refused text) (Err faults.Memory) is wrote = absurd wrote
  written (verdicts.Refused text) (Err faults.Reading) is wrote = absurd wrote
  written (verdicts.Mistake text) (Ok done) is wrote = absurd wrote
  written (verdicts.Mistake text) (Err faults.Mistake) is wrote = (string_bytes text, wrote)
  written (verdicts.Mistake text) (Err faults.Writing) is wrote = (string_bytes text, wrote)
  written (verdicts.Mistake text) (Err faults.Refused) is wrote = absurd wrote
  written (verdicts.Mistake text) (Err faults.Memory) is wrote = absurd wrote
  written (verdicts.Mistake text) (Err faults.Reading) is wrote = absurd wrote

-- ---- a result of which four things are said

pub all_four : {T F : Type 0} (result : Result T F) (A B C D : T → Type 0) → IfOk result A → IfOk result B → IfOk result C → IfOk result D
    → IfOk result (λ x. A x × B x × C x × D x)
all_four (Ok x) A B C D a b c d = (a, b, c, d)
all_four (Err fault) A B C D a b c d = tt
