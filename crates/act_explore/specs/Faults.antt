-- Which fault comes.
use Rattle.std.specs.Prelude.{◌≡◌, ℕ, List, map, Some, None}
use Rattle.std.specs.Global.{Vec}
use Rattle.act_rules.specs.declared.script.Step.{Step}
use Rattle.act_rules.specs.History.{ActorSpec}
use Rattle.act_plans.specs.Runs.{first_bad_plan}
use Rattle.act_executor.specs.Runs.{plan_view}
use Rattle.act_explore.specs.Plans.{AreSuited}
use Rattle.act_explore.specs.declared.fault.ExploreFault.{ExploreFault}
use Rattle.act_explore.specs.declared.fault.ExploreFault.TheVariants.{Unfit, BadPlan, Cut, NoMemory}

-- plans that don't suit the casts come first, and then the first step of a plan that would be refused
abbrev pub IsFault : List ActorSpec → List (ℕ × Vec Step) → ExploreFault → Type 0
IsFault casts plans Unfit = AreSuited casts plans → ⊥
IsFault casts plans (BadPlan caller place) = first_bad_plan casts (map plan_view plans) ≡ Some (caller, place)
IsFault casts plans Cut = first_bad_plan casts (map plan_view plans) ≡ None
IsFault casts plans NoMemory = Unit {0}
