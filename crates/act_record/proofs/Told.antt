-- What was written of a script whose run is recorded, by what there was to be written.
use Rattle.act_record.proofs.Common.{◌≡◌, ℕ, ◌+◌, List, Option, Result, Ok, Err, refl, sym, subst, ◌∙◌, string_bytes, Event, Role, Script, spelled_threads}
use Rattle.act_record.proofs.Common.{IsPlay, IsWritten, IsRecordOf, IsRecorded, HasShownText, IsMissing, IsOutput, WroteRecord}
use Rattle.std.proofs.KnownBytes.{Keeps-refl}
use Rattle.std.specs.Io.KnownBytes.{Appends}
use Rattle.act_types.specs.declared.limits.TheConstants.{MAX_SCRIPT_BYTES}
use Rattle.act_console.specs.declared.fault.ConsoleFault.TheVariants as faults
use Rattle.act_console.specs.Input.{IsWholeInput}
use Rattle.act_record.specs.declared.output.Output.{Output}
use Rattle.act_record.specs.declared.output.Output.TheVariants as outputs
use Rattle.act_record.specs.declared.output.Written.{Written}
use Rattle.act_record.specs.declared.output.Written.TheVariants.{Play, LongPlay}
use Rattle.act_record.specs.declared.fault.RecordingFault.{RecordingFault}
use Rattle.act_record.specs.declared.fault.RecordingFault.TheVariants.{Console, Unplayed}

-- ---- before anything is written

-- the text of a play is to be written
pub written_is : {script : Script} {roles : List Role} {events : List Event} (written : Written) (text : List ℕ)
    → script.roles ≡ roles → IsPlay script events → HasShownText written roles events text → IsWritten written script text
written_is {script} {roles} (Play source) text same is shown = record {
  play = shown.play;
  spells = shown.spells;
  roles = shown.roles_are ∙ sym same;
  is_play = subst (IsPlay script) (sym shown.events_are) is;
}
written_is {events} (LongPlay source) text same is long = record { long = long; events = events; is_play = is }

-- the text of a play is missed
pub missed : (script : Script) (fault : RecordingFault) → IsMissing fault → IsOutput (Err fault) (Ok script)
missed script (Console faults.Memory) is = tt
missed script Unplayed is = (script, refl)
missed script fault is = absurd (cc)

-- ---- what was written

module _ (had left old new : Option (List ℕ)) (bytes : List ℕ) (whole : IsWholeInput (MAX_SCRIPT_BYTES + 1) had left bytes) where
  -- an output was written
  pub told : (output : Output) (result : Result Written RecordingFault) → IsOutput (Ok output) (spelled_threads bytes) → WroteRecord old new output result
      → IsRecorded had left old new result
  told (outputs.Play play) (Ok written) is wrote = (
    bytes,
    whole,
    is.0,
    is.1,
    string_bytes play.text,
    subst (λ written. IsWritten written is.0 (string_bytes play.text)) (sym wrote.0) is.2,
    wrote.1,
  )
  told (outputs.Play play) (Err (Console faults.Writing)) is wrote = (
    bytes,
    whole,
    string_bytes play.text,
    subst (λ read. IsRecordOf read (string_bytes play.text)) (sym is.1) (play.written, is.2),
    wrote,
  )
  told (outputs.Play play) (Err (Console faults.Script)) is wrote = absurd wrote
  told (outputs.Play play) (Err (Console faults.Memory)) is wrote = absurd wrote
  told (outputs.Play play) (Err (Console faults.Thread)) is wrote = absurd wrote
  told (outputs.Play play) (Err (Console faults.Reading)) is wrote = absurd wrote
  told (outputs.Play play) (Err Unplayed) is wrote = absurd wrote
  told (outputs.Refusal text) (Ok written) is wrote = absurd wrote
  told (outputs.Refusal text) (Err (Console faults.Script)) is wrote = (bytes, whole, is.0, is.1, subst (Appends old new) is.2 wrote)
  told (outputs.Refusal text) (Err (Console faults.Writing)) is wrote =
      (bytes, whole, string_bytes text, subst (λ read. IsRecordOf read (string_bytes text)) (sym is.1) is.2, wrote)
  told (outputs.Refusal text) (Err (Console faults.Memory)) is wrote = absurd wrote
  told (outputs.Refusal text) (Err (Console faults.Thread)) is wrote = absurd wrote
  told (outputs.Refusal text) (Err (Console faults.Reading)) is wrote = absurd wrote
  told (outputs.Refusal text) (Err Unplayed) is wrote = absurd wrote

module _ (had left old : Option (List ℕ)) (bytes : List ℕ) (whole : IsWholeInput (MAX_SCRIPT_BYTES + 1) had left bytes) where
  -- nothing was to be written
  pub untold : (fault : RecordingFault) → IsOutput (Err fault) (spelled_threads bytes) → IsRecorded had left old old (Err fault)
  untold (Console faults.Memory) is = Keeps-refl old
  untold (Console faults.Thread) is = (bytes, whole, is.0, is.1, Keeps-refl old)
  untold Unplayed is = (bytes, whole, is.0, is.1, Keeps-refl old)
  untold fault is = absurd is
