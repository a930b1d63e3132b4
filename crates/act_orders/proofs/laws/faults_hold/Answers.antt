use Rattle.act_orders.proofs.Breaking.{fault_breaks}
use Rattle.act_orders.proofs.laws.faults_hold.Goals as goal

pub returns : goal.returns
returns _ told fault f order = fault_breaks fault f order.1
