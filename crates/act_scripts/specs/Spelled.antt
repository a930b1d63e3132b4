-- What was read of a script, beside what the script spells.
use Rattle.std.specs.Prelude.{◌≡◌, ℕ, List, [], length, Result, Ok, Err}
use Rattle.act_rules.specs.declared.event.Event.{Event}
use Rattle.act_rules.specs.declared.script.Step.{Step}
use Rattle.act_rules.specs.declared.script.Line.{Line}
use Rattle.act_rules.specs.declared.script.Line.TheVariants.{Role as RoleLine, Event as EventLine, Step as StepLine}
use Rattle.act_rules.specs.declared.script.Mode.{Mode}
use Rattle.act_rules.specs.declared.script.Mode.TheVariants.{Play, Threads}
use Rattle.act_rules.specs.declared.script.Wrong.{Wrong}
use Rattle.act_rules.specs.Grammar.{Script as Spelled}
use Rattle.act_rules.specs.Submissions.{IsLimit}
use Rattle.act_scripts.specs.declared.line.LineFault.{LineFault}
use Rattle.act_scripts.specs.declared.line.LineFault.TheVariants as of_lines
use Rattle.act_scripts.specs.declared.line.ScriptFault.{ScriptFault}
use Rattle.act_scripts.specs.declared.line.ScriptFault.TheVariants as faults
use Rattle.act_scripts.specs.declared.script.Items.{Items}
use Rattle.act_scripts.specs.declared.script.Items.TheVariants.{Events, Steps}
use Rattle.act_scripts.specs.declared.script.Script.{Script}
use Rattle.act_scripts.specs.Gives.{Fails}

-- a script of this mode may have the line: a role whose limit is good stands in both, an event in a play, a step in
-- threads
abbrev pub IsLineOf : Mode → Line → Type 0
IsLineOf mode (RoleLine role) = IsLimit role.pending
IsLineOf mode (EventLine event) = mode ≡ Play
IsLineOf mode (StepLine caller step) = mode ≡ Threads

-- the mode whose scripts have such items
abbrev pub mode_of : Items → Mode
mode_of (Events events) = Play
mode_of (Steps steps) = Threads

-- how many items there are
abbrev pub count_of : Items → ℕ
count_of (Events events) = length events
count_of (Steps steps) = length steps

-- the events and the steps among items of either mode
abbrev pub events_among : Items → List Event
events_among (Events events) = events
events_among (Steps steps) = []

abbrev pub steps_among : Items → List (ℕ × Step × ℕ)
steps_among (Events events) = []
steps_among (Steps steps) = steps

-- a script that was read, as the rules speak of it
abbrev pub spelled_script : Script → Spelled
spelled_script script = record {
  roles = script.casts;
  events = events_among script.items;
  steps = steps_among script.items;
}

-- what an addition left in a script, unless memory was refused
abbrev pub LeavesScript : {T : Type 0} → Result T LineFault → Script → Result Spelled Wrong → Type 0
LeavesScript (Ok done) new read = read ≡ Ok (spelled_script new)
LeavesScript (Err fault) new read = Fails fault read

-- a line's fault, as the script's
abbrev pub fault_at_line : ℕ → LineFault → ScriptFault
fault_at_line n of_lines.Memory = faults.NoMemory
fault_at_line n (of_lines.Wrong wrong) = faults.Line n wrong

-- the fault is the first one with its line, or want of memory
abbrev pub FailsAt : {Y : Type 0} → ScriptFault → Result Y (ℕ × Wrong) → Type 0
FailsAt faults.NoMemory read = Unit {0}
FailsAt (faults.Line n wrong) read = read ≡ Err (n, wrong)

-- the script, seen by view, is what was to be read, unless memory was refused
abbrev pub GivesScript : {X Y : Type 0} → (X → Y) → Result X ScriptFault → Result Y (ℕ × Wrong) → Type 0
GivesScript view (Ok script) read = read ≡ Ok (view script)
GivesScript view (Err fault) read = FailsAt fault read
