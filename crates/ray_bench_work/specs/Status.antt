-- The statuses that the program ends with.
use Rattle.std.specs.Prelude.{ℕ}
use Rattle.ray_bench_work.specs.declared.stop.Stop.{Stop}
use Rattle.ray_bench_work.specs.declared.stop.Stop.TheVariants.{Usage, Memory, Thread, Io}

abbrev pub status_of : Stop → ℕ
status_of Usage = 2
status_of Memory = 3
status_of Thread = 3
status_of Io = 4
status_of stop = 1
