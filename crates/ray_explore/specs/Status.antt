-- The statuses that the program ends with.
use Rattle.std.specs.Prelude.{ℕ}
use Rattle.ray_explore.specs.declared.status.Stop.{Stop}
use Rattle.ray_explore.specs.declared.status.Stop.TheVariants as stop

abbrev pub status_of : Stop → ℕ
status_of stop.Script = 1
status_of stop.Usage = 2
status_of stop.Memory = 3
status_of stop.Reading = 4
status_of stop.Writing = 4
status_of stop.Cut = 6
status_of stop.Unplayed = 7
