-- Why a history was refused.
use Rattle.std.specs.Prelude.{◌<◌, length, All}
use Rattle.act_orders.specs.declared.verdict.Refused.{Refused}
use Rattle.act_orders.specs.declared.verdict.Refused.TheVariants.{Faults, NoMemory}
use Rattle.act_orders.specs.declared.told.Told.{Told}
use Rattle.act_orders.specs.Faults.{IsFault}

-- there are faults, and each is one; or memory was refused
abbrev pub TellsFaults : Told → Refused → Type 0
TellsFaults told (Faults faults) = (0 < length faults) × All (IsFault told) faults
TellsFaults told NoMemory = Unit {0}
