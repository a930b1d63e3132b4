-- What a run of a script reads and writes.
use Rattle.std.specs.Prelude.{◌≡◌, ℕ, ◌+◌, List, Option, Result, Ok, Err, string_bytes}
use Rattle.std.specs.Io.KnownBytes.{Keeps, Appends}
use Rattle.act_types.specs.declared.limits.TheConstants.{MAX_SCRIPT_BYTES}
use Rattle.act_rules.specs.declared.script.Wrong.{Wrong}
use Rattle.act_rules.specs.declared.script.Mode.TheVariants.{Play}
use Rattle.act_rules.specs.Report.{report, fault_line}
use Rattle.act_rules.specs.Grammar.{Script, spelled}
use Rattle.act_rules.specs.Scripts.{world_of, output_of}
use Rattle.act_console.specs.declared.fault.ConsoleFault.{ConsoleFault}
use Rattle.act_console.specs.declared.fault.ConsoleFault.TheVariants as faults
use Rattle.act_console.specs.declared.streams.Output.{Output}
use Rattle.act_console.specs.declared.streams.Output.TheVariants as outputs
use Rattle.act_console.specs.Input.{IsWholeInput}
use Rattle.act_console.specs.Output.{AppendsPrefix}

-- what is to be written of a script: its report, or the line of its first fault
abbrev pub IsPlayOutput : Output → Result Script (ℕ × Wrong) → Type 0
IsPlayOutput (outputs.Report text) read = (script : Script) × (read ≡ Ok script)
    × (string_bytes text ≡ report (world_of script.roles) script.events)
IsPlayOutput (outputs.Refusal text) read = (fault : ℕ × Wrong) × (read ≡ Err fault)
    × (string_bytes text ≡ fault_line fault)

-- what a run read and wrote, by its answer
abbrev pub ScriptPlayed : Option (List ℕ) → Option (List ℕ) → Option (List ℕ) → Option (List ℕ) →
    Result (Unit {0}) ConsoleFault → Type 0
ScriptPlayed had left old new (Ok done) =
    (bytes : List ℕ) × IsWholeInput (MAX_SCRIPT_BYTES + 1) had left bytes
    × (script : Script) × (spelled Play bytes ≡ Ok script)
    × Appends old new (report (world_of script.roles) script.events)
ScriptPlayed had left old new (Err faults.Script) =
    (bytes : List ℕ) × IsWholeInput (MAX_SCRIPT_BYTES + 1) had left bytes
    × (fault : ℕ × Wrong) × (spelled Play bytes ≡ Err fault) × Appends old new (fault_line fault)
ScriptPlayed had left old new (Err faults.Memory) = Keeps old new
ScriptPlayed had left old new (Err faults.Thread) = ⊥
ScriptPlayed had left old new (Err faults.Reading) = Keeps old new
ScriptPlayed had left old new (Err faults.Writing) = (bytes : List ℕ)
    × IsWholeInput (MAX_SCRIPT_BYTES + 1) had left bytes × AppendsPrefix old new (output_of bytes)
