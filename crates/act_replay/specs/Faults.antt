-- Why a run has no play to show.
use Rattle.std.specs.Prelude.{◌≡◌, ℕ, List, None}
use Rattle.act_rules.specs.declared.script.Step.{Step}
use Rattle.act_rules.specs.History.{ActorSpec}
use Rattle.act_plans.specs.Runs.{first_bad_plan}
use Rattle.act_executor.specs.declared.run.RunFault.TheVariants.{NoMemory}
use Rattle.act_executor.specs.Runs.{IsFault}
use Rattle.act_replay.specs.declared.run.RecordFault.{RecordFault}
use Rattle.act_replay.specs.declared.run.RecordFault.TheVariants.{Run, Unplayed}

-- no play was found, or memory was refused
abbrev pub IsPlayFault : RecordFault → Type 0
IsPlayFault (Run fault) = fault ≡ NoMemory
IsPlayFault Unplayed = Unit {0}

-- the run has the fault, or it went to its end and no play was found
abbrev pub IsRecordFault : List ActorSpec → List (ℕ × List Step) → RecordFault → Type 0
IsRecordFault casts plans (Run fault) = IsFault casts plans fault
IsRecordFault casts plans Unplayed = first_bad_plan casts plans ≡ None
