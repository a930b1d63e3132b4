-- What each command reads and writes, and what of its end is told.
use Rattle.std.specs.Prelude.{ℕ, List, Option, Some, None, Result, Ok, Err}
use Rattle.act_rules.specs.declared.script.Mode.TheVariants.{Play, Threads}
use Rattle.act_console.specs.Console.{ScriptPlayed}
use Rattle.act_console.specs.Threads.{Threaded}
use Rattle.act_record.specs.Record.{IsRecorded}
use Rattle.act_record.specs.declared.output.Written.{Written}
use Rattle.act_histories.specs.Checked.{Checked}
use Rattle.ray_commands.specs.declared.command.Command.{Command}
use Rattle.ray_commands.specs.declared.command.Command.TheVariants as command
use Rattle.ray_commands.specs.declared.ended.Ended.{Ended}
use Rattle.ray_commands.specs.declared.ended.Ended.TheVariants as ended
use Rattle.ray_commands.specs.declared.status.Stop.{Stop}
use Rattle.ray_commands.specs.declared.status.Stop.TheVariants as stop

-- each command ends in its own way, with the clause of what it runs
abbrev pub Obeyed : Command → Option (List ℕ) → Option (List ℕ) → Option (List ℕ) → Option (List ℕ) → Ended → Type 0
Obeyed (command.Run Play) had left old new (ended.Run result) = ScriptPlayed had left old new result
Obeyed (command.Run Play) had left old new (ended.Recording result) = ⊥
Obeyed (command.Run Play) had left old new (ended.Check result) = ⊥
Obeyed (command.Run Threads) had left old new (ended.Run result) = Threaded had left old new result
Obeyed (command.Run Threads) had left old new (ended.Recording result) = ⊥
Obeyed (command.Run Threads) had left old new (ended.Check result) = ⊥
Obeyed command.Record had left old new (ended.Run result) = ⊥
Obeyed command.Record had left old new (ended.Recording result) = IsRecorded had left old new result
Obeyed command.Record had left old new (ended.Check result) = ⊥
Obeyed (command.Check reasons) had left old new (ended.Run result) = ⊥
Obeyed (command.Check reasons) had left old new (ended.Recording result) = ⊥
Obeyed (command.Check reasons) had left old new (ended.Check result) = Checked had left old new result

-- what was written by a recording that ended well, nothing by what else did, or why the program stops
abbrev pub told_of : Ended → Result (Option Written) Stop
told_of (ended.Run (Ok done)) = Ok None
told_of (ended.Run (Err fault)) = Err (stop.Console fault)
told_of (ended.Recording (Ok written)) = Ok (Some written)
told_of (ended.Recording (Err fault)) = Err (stop.Recording fault)
told_of (ended.Check (Ok done)) = Ok None
told_of (ended.Check (Err fault)) = Err (stop.Check fault)
