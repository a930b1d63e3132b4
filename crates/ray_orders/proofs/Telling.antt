-- How a history is told that was judged.
use Rattle.std.proofs.Common.{◌≡◌, ℕ, ◌<◌, List, [], length, Option, Result, Ok, Err, All, get_or, OnOk, IfErr}
use Rattle.act_orders.specs.declared.fault.Fault.{Fault}
use Rattle.act_orders.specs.declared.fault.Fault.TheVariants.{NoRole}
use Rattle.act_orders.specs.declared.told.Told.{Told}
use Rattle.act_orders.specs.Order.{IsInOrder}
use Rattle.act_orders.specs.Faults.{IsFault}
use Rattle.act_orders.proofs.Breaking.{fault_breaks}
use Rattle.ray_orders.specs.declared.command.Command.{Command}
use Rattle.ray_orders.specs.declared.status.Stop.{Stop}
use Rattle.ray_orders.specs.declared.status.Stop.TheVariants as stop
use Rattle.ray_orders.specs.Told.{TellsInOrder, StopsWriting, IsJudged}

-- a history of which a fault is told isn't in order
pub out_of_order : (told : Told) (faults : List Fault) → 0 < length faults → All (IsFault told) faults → IsInOrder told → ⊥
out_of_order told faults some each order = fault_breaks (get_or faults 0 (NoRole 0)) (each 0 (NoRole 0) some) order.1

-- one in order is told as it is, unless writing stops
pub told_in_order : {told : Told} {renamed : List ℕ} (command : Command) (old new : Option (List ℕ)) (result : Result (Unit {0}) Stop) → renamed ≡ [] →
    IsInOrder told → OnOk result (TellsInOrder (length told.calls) command old new) → IfErr result StopsWriting → IsJudged told renamed command old new result
told_in_order command old new (Ok done) none order tells stops = (none, order, tells)
told_in_order command old new (Err stop.NoMemory) none order tells stops = tt
told_in_order command old new (Err stop.Writing) none order tells stops = tt
told_in_order command old new (Err stop.Mistake) none order tells stops = absurd stops
told_in_order command old new (Err stop.Usage) none order tells stops = absurd stops
told_in_order command old new (Err stop.Reading) none order tells stops = absurd stops
told_in_order command old new (Err stop.Refused) none order tells stops = absurd stops
