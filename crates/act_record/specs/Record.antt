-- What a run of a script for threads reads and writes that is recorded.
use Rattle.std.specs.Prelude.{◌≡◌, ℕ, ◌+◌, ◌<◌, List, length, Option, Result, Ok, Err, All, IsOk}
use Rattle.std.specs.Io.KnownBytes.{Keeps, Appends}
use Rattle.act_types.specs.declared.limits.TheConstants.{MAX_SCRIPT_BYTES}
use Rattle.act_rules.specs.declared.event.Event.{Event}
use Rattle.act_rules.specs.declared.script.Mode.TheVariants.{Play as PlayMode}
use Rattle.act_rules.specs.declared.script.Wrong.{Wrong}
use Rattle.act_rules.specs.Rules.{outcomes, after_all}
use Rattle.act_rules.specs.Report.{summary, fault_line}
use Rattle.act_rules.specs.Grammar.{Script, spelled}
use Rattle.act_rules.specs.Scripts.{world_of}
use Rattle.act_console.specs.declared.fault.ConsoleFault.TheVariants as faults
use Rattle.act_console.specs.Input.{IsWholeInput}
use Rattle.act_console.specs.Output.{AppendsPrefix}
use Rattle.act_console.specs.Threads.{IsSummary, Threaded, spelled_threads}
use Rattle.act_record.specs.declared.output.Written.{Written}
use Rattle.act_record.specs.declared.output.Written.TheVariants.{Play, LongPlay}
use Rattle.act_record.specs.declared.fault.RecordingFault.{RecordingFault}
use Rattle.act_record.specs.declared.fault.RecordingFault.TheVariants.{Console, Unplayed}

-- the events are a play of the script: all are accepted in the world of its roles, which ends with the summary of a run
-- of its plans
pub record IsPlay (script : Script) (events : List Event) : Type 0 where
  pub accepted : All IsOk (outcomes (world_of script.roles) events)
  pub ends : IsSummary script (summary (after_all (world_of script.roles) events))

-- the text spells a play of the script, with the script's roles
pub record IsRecord (script : Script) (text : List ℕ) : Type 0 where
  pub play : Script
  pub spells : spelled PlayMode text ≡ Ok play
  pub roles : play.roles ≡ script.roles
  pub is_play : IsPlay script play.events

-- the text is too long for a script, and there is a play; that the text spells it is not claimed
pub record IsLongRecord (script : Script) (text : List ℕ) : Type 0 where
  pub long : MAX_SCRIPT_BYTES < length text
  pub events : List Event
  pub is_play : IsPlay script events

-- the text is what was written of a run of the script
abbrev pub IsWritten : Written → Script → List ℕ → Type 0
IsWritten (Play source) script text = IsRecord script text
IsWritten (LongPlay source) script text = IsLongRecord script text

-- the text is to be written of what bytes spell for threads: a play, or the line of the first fault
abbrev pub IsRecordOf : Result Script (ℕ × Wrong) → List ℕ → Type 0
IsRecordOf (Ok script) text = (written : Written) × IsWritten written script text
IsRecordOf (Err fault) text = text ≡ fault_line fault

-- what a recorded run read and wrote, by its output; its faults are those of a run in threads, and one more
abbrev pub IsRecorded : Option (List ℕ) → Option (List ℕ) → Option (List ℕ) → Option (List ℕ) →
    Result Written RecordingFault → Type 0
IsRecorded had left old new (Ok written) =
    (bytes : List ℕ) × IsWholeInput (MAX_SCRIPT_BYTES + 1) had left bytes
    × (script : Script) × (spelled_threads bytes ≡ Ok script) × (text : List ℕ) × IsWritten written script text
    × Appends old new text
IsRecorded had left old new (Err (Console faults.Script)) = Threaded had left old new (Err faults.Script)
IsRecorded had left old new (Err (Console faults.Memory)) = Threaded had left old new (Err faults.Memory)
IsRecorded had left old new (Err (Console faults.Thread)) = Threaded had left old new (Err faults.Thread)
IsRecorded had left old new (Err (Console faults.Reading)) = Threaded had left old new (Err faults.Reading)
IsRecorded had left old new (Err (Console faults.Writing)) =
    (bytes : List ℕ) × IsWholeInput (MAX_SCRIPT_BYTES + 1) had left bytes × (text : List ℕ)
    × IsRecordOf (spelled_threads bytes) text × AppendsPrefix old new text
IsRecorded had left old new (Err Unplayed) =
    (bytes : List ℕ) × IsWholeInput (MAX_SCRIPT_BYTES + 1) had left bytes × (script : Script)
    × (spelled_threads bytes ≡ Ok script) × Keeps old new
