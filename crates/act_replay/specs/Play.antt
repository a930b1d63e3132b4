-- How an actor of a world is compared with one that threads left.
use Rattle.std.specs.Prelude.{◌≡◌}
use Rattle.act_world.specs.View.{SlotView, Died, Ended}
use Rattle.act_serve.specs.Served.{EndView, Killed, Retired}

-- the world's actor ran the same, and ended in the same way
abbrev pub IsSameEnd : SlotView → EndView → Type 0
IsSameEnd (Died dead) (Killed other) = dead.log ≡ other.log
IsSameEnd (Ended retired) (Retired other) = retired.log ≡ other.log
IsSameEnd slot end = ⊥
