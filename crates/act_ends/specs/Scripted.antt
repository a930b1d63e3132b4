-- The roles and the plans of a script.
use Rattle.std.specs.Prelude.{◌≡◌, ℕ, List, map, Ok}
use Rattle.act_rules.specs.declared.script.Mode.TheVariants.{Threads}
use Rattle.act_rules.specs.Grammar.{Script, spelled}
use Rattle.act_executor.specs.Runs.{plan_view}
use Rattle.act_console.specs.Threads.{plans_in}
use Rattle.act_ends.specs.declared.planned.Planned.{Planned}

-- the roles and the plans are those of the script
pub record AreOf (script : Script) (planned : Planned) : Type 0 where
  pub roles : planned.roles ≡ script.roles
  pub plans : map plan_view planned.plans.items ≡ plans_in script

-- the bytes spell a script for threads, and the roles and the plans are its
pub record AreSpelled (bytes : List ℕ) (planned : Planned) : Type 0 where
  pub script : Script
  pub read : spelled Threads bytes ≡ Ok script
  pub same : AreOf script planned
