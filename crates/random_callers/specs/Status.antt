-- The statuses that the program ends with.
use Rattle.std.specs.Prelude.{ℕ}
use Rattle.random_callers.specs.declared.stop.Stop.{Stop}
use Rattle.random_callers.specs.declared.stop.Stop.TheVariants.{Usage, Unfit, Memory, Thread, Io, Order}

abbrev pub status_of : Stop → ℕ
status_of Usage = 2
status_of Unfit = 1
status_of Memory = 3
status_of Thread = 3
status_of Io = 4
status_of Order = 5
