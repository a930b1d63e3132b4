-- The statuses that the program ends with, and what is told of its end.
use Rattle.std.specs.Prelude.{ℕ, ◌<◌}
use Rattle.act_console.specs.declared.fault.ConsoleFault.{ConsoleFault}
use Rattle.act_console.specs.declared.fault.ConsoleFault.TheVariants.{Script, Memory, Thread, Reading, Writing}
use Rattle.act_record.specs.declared.fault.RecordingFault.TheVariants.{Console, Unplayed}
use Rattle.act_histories.specs.declared.fault.CheckFault.{CheckFault}
use Rattle.act_histories.specs.declared.fault.CheckFault.TheVariants as check
use Rattle.ray_commands.specs.declared.status.Stop.{Stop}
use Rattle.ray_commands.specs.declared.status.Stop.TheVariants as stop

-- as the program ray_actors ends
abbrev pub console_status : ConsoleFault → ℕ
console_status Script = 1
console_status Memory = 3
console_status Thread = 3
console_status Reading = 4
console_status Writing = 4

abbrev pub check_status : CheckFault → ℕ
check_status check.Mistake = 1
check_status check.Memory = 3
check_status check.Reading = 4
check_status check.Writing = 4
check_status check.Refused = 5

abbrev pub status_of : Stop → ℕ
status_of stop.Usage = 2
status_of (stop.Console fault) = console_status fault
status_of (stop.Recording (Console fault)) = console_status fault
status_of (stop.Recording Unplayed) = 5
status_of (stop.Check fault) = check_status fault

-- what is told on the standard error: of a run and of a recording, what ends with a status above 1
abbrev pub IsTold : Stop → Type 0
IsTold stop.Usage = 1 < status_of stop.Usage
IsTold (stop.Console fault) = 1 < status_of (stop.Console fault)
IsTold (stop.Recording fault) = 1 < status_of (stop.Recording fault)
IsTold (stop.Check check.Mistake) = ⊥
IsTold (stop.Check check.Refused) = ⊥
IsTold other = Unit {0}
