-- Why a search ended without an order.
use Rattle.act_orders.specs.declared.search.Stuck.{Stuck}
use Rattle.act_orders.specs.declared.search.Stuck.TheVariants.{Circle, NoMemory}
use Rattle.act_orders.specs.declared.told.Told.{Told}
use Rattle.act_orders.specs.Faults.{IsCircle}

-- it was refused memory, or met a circle
abbrev pub TellsCircle : Told → Stuck → Type 0
TellsCircle told (Circle circle) = IsCircle told circle
TellsCircle told NoMemory = Unit {0}
