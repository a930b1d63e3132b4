-- The plans of a script that was read.
use Rattle.act_ends.proofs.Common.{◌≡◌, ℕ, List, map, ap, sym, ◌∙◌, callers_of_roles}
use Rattle.act_rules.specs.declared.script.Role.{Role}
use Rattle.act_rules.specs.declared.script.Step.{Step}
use Rattle.act_scripts.specs.declared.script.Items.TheVariants.{Steps}
use Rattle.act_scripts.specs.declared.script.Script.{Script}
use Rattle.act_scripts.specs.Spelled.{spelled_script, steps_among}
use Rattle.act_executor.specs.Runs.{plan_view}
use Rattle.act_console.specs.declared.threads.Sorted.{Sorted}
use Rattle.act_console.specs.Plans.{AreSorted, plan_from}
use Rattle.act_ends.specs.declared.planned.Planned.{Planned}
use Rattle.act_ends.specs.Scripted.{AreOf}

pub planned_as : (script : Script) {steps : List (ℕ × Step × ℕ)} {seen : List Role} {sorted : Sorted} (planned : Planned) → script.items ≡ Steps steps
    → seen ≡ script.casts
    → AreSorted (callers_of_roles seen) steps sorted → planned.roles ≡ script.casts → planned.plans ≡ sorted.plans → AreOf (spelled_script script) planned
planned_as script {steps} planned items same are roles plans = record {
  roles = roles;
  plans =
      ap (λ ps. map plan_view ps.items) plans
      ∙ are.plans
      ∙ ap (λ l. map (plan_from steps) (callers_of_roles l)) same
      ∙ ap (λ all. map (plan_from (steps_among all)) (callers_of_roles script.casts)) (sym items);
}
