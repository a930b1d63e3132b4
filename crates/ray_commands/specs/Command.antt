-- The words that the program knows.
use Rattle.std.specs.Prelude.{ℕ, List, [], ◌∷◌, Option, find, bytes_eq, codes}
use Rattle.act_rules.specs.declared.script.Mode.TheVariants.{Play, Threads}
use Rattle.act_histories.specs.declared.reason.Reasons.TheVariants.{First, All}
use Rattle.ray_commands.specs.declared.command.Command.{Command}
use Rattle.ray_commands.specs.declared.command.Command.TheVariants.{Run, Record, Check}

abbrev pub command_text : Command → List ℕ
command_text (Run Play) = codes "play"
command_text (Run Threads) = codes "threads"
command_text Record = codes "record"
command_text (Check First) = codes "check"
command_text (Check All) = codes "check-all"

abbrev pub all_commands : List Command
all_commands = Run Play ∷ Run Threads ∷ Record ∷ Check First ∷ Check All ∷ []

-- the command of this word
abbrev pub command_named : List ℕ → Option Command
command_named word = find (λ command. bytes_eq word (command_text command)) all_commands
