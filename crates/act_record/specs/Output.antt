-- What there is to be written of a script whose run is recorded, before it is written.
use Rattle.std.specs.Prelude.{◌≡◌, ℕ, ◌<◌, List, length, Option, Result, Ok, Err, string_bytes}
use Rattle.std.specs.Io.KnownBytes.{Appends}
use Rattle.act_types.specs.declared.limits.TheConstants.{MAX_SCRIPT_BYTES}
use Rattle.act_rules.specs.declared.event.Event.{Event}
use Rattle.act_rules.specs.declared.script.Role.{Role}
use Rattle.act_rules.specs.declared.script.Mode.TheVariants.{Play as PlayMode}
use Rattle.act_rules.specs.declared.script.Wrong.{Wrong}
use Rattle.act_rules.specs.Report.{fault_line}
use Rattle.act_rules.specs.Grammar.{Script, spelled}
use Rattle.act_replay.specs.declared.run.RecordFault.{RecordFault}
use Rattle.act_replay.specs.declared.run.RecordFault.TheVariants as records
use Rattle.act_console.specs.declared.threads.StepAt.{StepAt}
use Rattle.act_console.specs.declared.fault.ConsoleFault.TheVariants as faults
use Rattle.act_console.specs.Plans.{HasLine, Explains}
use Rattle.act_console.specs.Output.{AppendsPrefix}
use Rattle.act_record.specs.declared.output.Output.{Output}
use Rattle.act_record.specs.declared.output.Output.TheVariants as outputs
use Rattle.act_record.specs.declared.output.PlayText.{PlayText}
use Rattle.act_record.specs.declared.output.Written.{Written}
use Rattle.act_record.specs.declared.output.Written.TheVariants.{Play, LongPlay}
use Rattle.act_record.specs.declared.fault.RecordingFault.{RecordingFault}
use Rattle.act_record.specs.declared.fault.RecordingFault.TheVariants.{Console, Unplayed}
use Rattle.act_record.specs.Record.{IsWritten}

-- the text spells these roles and events
pub record IsReadAs (roles : List Role) (events : List Event) (text : List ℕ) : Type 0 where
  pub play : Script
  pub spells : spelled PlayMode text ≡ Ok play
  pub roles_are : play.roles ≡ roles
  pub events_are : play.events ≡ events

-- the text was read again, or is too long for that
abbrev pub HasShownText : Written → List Role → List Event → List ℕ → Type 0
HasShownText (Play source) roles events text = IsReadAs roles events text
HasShownText (LongPlay source) roles events text = MAX_SCRIPT_BYTES < length text

abbrev pub IsTextOf : List Role → List Event → PlayText → Type 0
IsTextOf roles events play = HasShownText play.written roles events (string_bytes play.text)

-- a fault that has nothing to do with the script
abbrev pub IsMissing : RecordingFault → Type 0
IsMissing (Console fault) = fault ≡ faults.Memory
IsMissing Unplayed = Unit {0}

-- the step that a fault of a recorded run names has a line
abbrev pub HasLineOf : List StepAt → RecordFault → Type 0
HasLineOf lines (records.Run fault) = HasLine lines fault
HasLineOf lines records.Unplayed = Unit {0}

-- what a fault of a recorded run tells of the script: as of a run, or that its plans are good
abbrev pub IsExplained : List StepAt → RecordFault → Result Script (ℕ × Wrong) → Type 0
IsExplained lines (records.Run fault) read = Explains lines fault read
IsExplained lines records.Unplayed read = (script : Script) × (read ≡ Ok script)

-- what is to be written of what bytes spell, or why nothing is: a thread is missed, and no play found, only where the
-- plans are good
abbrev pub IsOutput : Result Output RecordingFault → Result Script (ℕ × Wrong) → Type 0
IsOutput (Ok (outputs.Play play)) read = (script : Script) × (read ≡ Ok script)
    × IsWritten play.written script (string_bytes play.text)
IsOutput (Ok (outputs.Refusal text)) read = (fault : ℕ × Wrong) × (read ≡ Err fault)
    × (string_bytes text ≡ fault_line fault)
IsOutput (Err Unplayed) read = (script : Script) × (read ≡ Ok script)
IsOutput (Err (Console faults.Memory)) read = Unit {0}
IsOutput (Err (Console faults.Thread)) read = (script : Script) × (read ≡ Ok script)
IsOutput (Err other) read = ⊥

-- what was written of an output: a play whole, and a refusal whole, which is then told as the script's fault; or a
-- prefix of either
abbrev pub WroteRecord : Option (List ℕ) → Option (List ℕ) → Output → Result Written RecordingFault → Type 0
WroteRecord old new (outputs.Play play) (Ok written) = (written ≡ play.written)
    × Appends old new (string_bytes play.text)
WroteRecord old new (outputs.Play play) (Err (Console faults.Writing)) = AppendsPrefix old new (string_bytes play.text)
WroteRecord old new (outputs.Play play) (Err (Console faults.Script)) = ⊥
WroteRecord old new (outputs.Play play) (Err (Console faults.Memory)) = ⊥
WroteRecord old new (outputs.Play play) (Err (Console faults.Thread)) = ⊥
WroteRecord old new (outputs.Play play) (Err (Console faults.Reading)) = ⊥
WroteRecord old new (outputs.Play play) (Err Unplayed) = ⊥
WroteRecord old new (outputs.Refusal text) (Ok written) = ⊥
WroteRecord old new (outputs.Refusal text) (Err (Console faults.Script)) = Appends old new (string_bytes text)
WroteRecord old new (outputs.Refusal text) (Err (Console faults.Writing)) = AppendsPrefix old new (string_bytes text)
WroteRecord old new (outputs.Refusal text) (Err (Console faults.Memory)) = ⊥
WroteRecord old new (outputs.Refusal text) (Err (Console faults.Thread)) = ⊥
WroteRecord old new (outputs.Refusal text) (Err (Console faults.Reading)) = ⊥
WroteRecord old new (outputs.Refusal text) (Err Unplayed) = ⊥
