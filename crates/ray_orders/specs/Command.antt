-- The words that the program knows.
use Rattle.std.specs.Prelude.{ℕ, List, [], ◌∷◌, Option, find, bytes_eq, codes}
use Rattle.ray_orders.specs.declared.command.Command.{Command}
use Rattle.ray_orders.specs.declared.command.Command.TheVariants.{All, Order}

abbrev pub option_text : Command → List ℕ
option_text All = codes "--all"
option_text Order = codes "--order"
option_text _ = []

-- the command of this word
abbrev pub command_named : List ℕ → Option Command
command_named word = find (λ command. bytes_eq word (option_text command)) (All ∷ Order ∷ [])
