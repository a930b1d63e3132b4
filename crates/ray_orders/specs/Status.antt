-- The statuses that the program ends with, and what is told of its end.
use Rattle.std.specs.Prelude.{ℕ}
use Rattle.ray_orders.specs.declared.status.Stop.{Stop}
use Rattle.ray_orders.specs.declared.status.Stop.TheVariants as stop

abbrev pub status_of : Stop → ℕ
status_of stop.Mistake = 1
status_of stop.Usage = 2
status_of stop.NoMemory = 3
status_of stop.Reading = 4
status_of stop.Writing = 4
status_of stop.Refused = 5

-- what is told on the standard error; what is wrong with a history stands on the standard output
abbrev pub IsTold : Stop → Type 0
IsTold stop.Mistake = ⊥
IsTold stop.Refused = ⊥
IsTold other = Unit {0}
