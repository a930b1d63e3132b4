-- What a play and a run in threads wrote, by what there was to be written.
use Rattle.act_console.proofs.Common.{ℕ, ◌+◌, List, Option, Result, Ok, Err, ap, subst, sym, ◌∙◌, string_bytes, Appends, MAX_SCRIPT_BYTES, Play, spelled}
use Rattle.act_console.proofs.Common.{text_of, Output, Report, Refusal, ConsoleFault, IsWholeInput, AppendsPrefix, Wrote, IsPlayOutput, ScriptPlayed, IsToldOf}
use Rattle.act_console.proofs.Common.{IsThreadsOutput, Threaded, spelled_threads, Keeps-refl}
use Rattle.act_console.specs.declared.fault.ConsoleFault.TheVariants as faults

module _ (had left old new : Option (List ℕ)) (bytes : List ℕ) (whole : IsWholeInput (MAX_SCRIPT_BYTES + 1) had left bytes) where
  -- an answer of a play was written
  pub play_told : (answer : Output) (result : Result (Unit {0}) ConsoleFault) → IsPlayOutput answer (spelled Play bytes) → Wrote old new answer result →
      ScriptPlayed had left old new result
  play_told (Report text) (Ok done) is wrote = (bytes, whole, is.0, is.1, subst (Appends old new) is.2 wrote)
  play_told (Report text) (Err faults.Writing) is wrote = (bytes, whole, subst (AppendsPrefix old new) (is.2 ∙ sym (ap text_of is.1)) wrote)
  play_told (Report text) (Err faults.Script) is wrote = absurd wrote
  play_told (Report text) (Err faults.Memory) is wrote = absurd wrote
  play_told (Report text) (Err faults.Thread) is wrote = absurd wrote
  play_told (Report text) (Err faults.Reading) is wrote = absurd wrote
  play_told (Refusal text) (Ok done) is wrote = absurd wrote
  play_told (Refusal text) (Err faults.Script) is wrote = (bytes, whole, is.0, is.1, subst (Appends old new) is.2 wrote)
  play_told (Refusal text) (Err faults.Writing) is wrote = (bytes, whole, subst (AppendsPrefix old new) (is.2 ∙ sym (ap text_of is.1)) wrote)
  play_told (Refusal text) (Err faults.Memory) is wrote = absurd wrote
  play_told (Refusal text) (Err faults.Thread) is wrote = absurd wrote
  play_told (Refusal text) (Err faults.Reading) is wrote = absurd wrote

  -- an answer of threads was written
  pub told : (answer : Output) (result : Result (Unit {0}) ConsoleFault) → IsThreadsOutput (Ok answer) (spelled_threads bytes) → Wrote old new answer result →
      Threaded had left old new result
  told (Report text) (Ok done) is wrote = (bytes, whole, is.0, is.1, string_bytes text, is.2, wrote)
  told (Report text) (Err faults.Writing) is wrote = (bytes, whole, string_bytes text, subst (λ read. IsToldOf read (string_bytes text)) (sym is.1) is.2, wrote)
  told (Report text) (Err faults.Script) is wrote = absurd wrote
  told (Report text) (Err faults.Memory) is wrote = absurd wrote
  told (Report text) (Err faults.Thread) is wrote = absurd wrote
  told (Report text) (Err faults.Reading) is wrote = absurd wrote
  told (Refusal text) (Ok done) is wrote = absurd wrote
  told (Refusal text) (Err faults.Script) is wrote = (bytes, whole, is.0, is.1, subst (Appends old new) is.2 wrote)
  told (Refusal text) (Err faults.Writing) is wrote =
      (bytes, whole, string_bytes text, subst (λ read. IsToldOf read (string_bytes text)) (sym is.1) is.2, wrote)
  told (Refusal text) (Err faults.Memory) is wrote = absurd wrote
  told (Refusal text) (Err faults.Thread) is wrote = absurd wrote
  told (Refusal text) (Err faults.Reading) is wrote = absurd wrote

module _ (had left old : Option (List ℕ)) (bytes : List ℕ) (whole : IsWholeInput (MAX_SCRIPT_BYTES + 1) had left bytes) where
  -- nothing was to be written
  pub untold : (fault : ConsoleFault) → IsThreadsOutput (Err fault) (spelled_threads bytes) → Threaded had left old old (Err fault)
  untold faults.Memory is = Keeps-refl old
  untold faults.Thread is = (bytes, whole, is.0, is.1, Keeps-refl old)
  untold fault is = absurd is
