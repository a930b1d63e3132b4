use Rattle.act_record.proofs.Common.{◌≡◌, ℕ, List, map, None, Ok, ap, sym, ◌∙◌, subst, Role, Step, with_good_plans, actor_spec_of, end_view, IsPlayOf}
use Rattle.act_record.proofs.Common.{script_of, step_line_view, step_view, first_stranger, plans_in, plans_fit, joined_same, planned_same, bad_same}
use Rattle.act_record.proofs.Common.{good_script, has_line, explains, sorted_plans, IsPlay, HasLineOf, IsOutput, IsExplained}
use Rattle.act_rules.specs.History.{ActorSpec}
use Rattle.act_actor.specs.Casts.{actor_spec}
use Rattle.act_scripts.specs.Roles.{AreFitting}
use Rattle.act_plans.specs.Runs.{first_bad_plan}
use Rattle.act_executor.specs.declared.run.RunFault.TheVariants.{NoThread}
use Rattle.act_executor.specs.Runs.{plan_view}
use Rattle.act_replay.specs.declared.run.RecordFault.{RecordFault}
use Rattle.act_replay.specs.declared.run.RecordFault.TheVariants.{Run, Unplayed}
use Rattle.act_replay.specs.Faults.{IsRecordFault}
use Rattle.act_console.specs.declared.threads.StepAt.{StepAt}
use Rattle.act_console.proofs.Roles.{casts_fit}
use Rattle.act_console.proofs.PlansOf.{no_bad_line}
use Rattle.act_record.proofs.Ends.{plays}
use Rattle.act_record.proofs.record.output_of_steps.Goals as goal

-- the casts are those of the roles, of a copy of which they were made
of_roles : {casts : List ActorSpec} {copies seen roles : List Role} → casts ≡ map actor_spec_of copies → copies ≡ seen → seen ≡ roles
    → casts ≡ map actor_spec_of roles
of_roles made copied same = made ∙ ap (map actor_spec_of) (copied ∙ same)

module _ (roles : List Role) (steps : List (ℕ × Step × ℕ)) (step_lines : List StepAt) (listed : map step_line_view step_lines ≡ map step_view steps)
    (known : first_stranger roles steps ≡ None) (casts : List ActorSpec) (plans : List (ℕ × List Step))
    (same : first_bad_plan casts plans ≡ first_bad_plan (map actor_spec_of roles) (plans_in (script_of roles steps))) where
  has_line_of : (fault : RecordFault) → IsRecordFault casts plans fault → HasLineOf step_lines fault
  has_line_of (Run fault) told = has_line roles steps step_lines listed known casts plans same fault told
  has_line_of Unplayed told = tt

  is_explained : (fault : RecordFault) → AreFitting (map actor_spec_of roles) → IsRecordFault casts plans fault
      → IsExplained step_lines fault (with_good_plans 16 8 (Ok (script_of roles steps)))
  is_explained (Run fault) fit told = explains roles steps step_lines listed known casts plans same fault fit told
  is_explained Unplayed fit told = explains roles steps step_lines listed known casts plans same NoThread fit told

pub run_recorded-requires-clause-fit : goal.run_recorded-requires-clause-fit
run_recorded-requires-clause-fit g c κs within =
    let same = of_roles c.in_ok-casts.ensures c.in_ok-one.ensures c.as_slice-2.ensures in
    casts_fit (λ b. (goal.Actor-dyn g (b.vtable, b.value)).state b.value) c.in_ok-casts.casts.items c.args.roles same c.requires.roles

pub run_recorded-requires-clause-twins : goal.run_recorded-requires-clause-twins
run_recorded-requires-clause-twins g c κs within =
    let same = of_roles c.in_ok-casts.ensures c.in_ok-one.ensures c.as_slice-2.ensures in
    of_roles c.in_ok-twins.ensures c.in_ok-other.ensures c.as_slice-3.ensures ∙ sym same

pub run_recorded-requires-clause-plans : goal.run_recorded-requires-clause-plans
run_recorded-requires-clause-plans g c κs within =
    let same = of_roles c.in_ok-casts.ensures c.in_ok-one.ensures c.as_slice-2.ensures in
    let sorted = sorted_plans c.as_slice.ensures c.in_ok-sorted.ensures in
    plans_fit (λ b. (goal.Actor-dyn g (b.vtable, b.value)).state b.value) c.in_ok-casts.casts.items c.args.roles same c.args.steps
    c.in_ok-sorted.sorted.plans.items sorted c.requires.few

pub returns-in-Ok : goal.returns-in-Ok
returns-in-Ok g c =
    let casts = c.in_ok-casts.casts.items in let plans = c.in_ok-sorted.sorted.plans.items in let script = script_of c.args.roles c.args.steps in
    let same = of_roles c.in_ok-casts.ensures c.in_ok-one.ensures c.as_slice-2.ensures in
    let sorted = sorted_plans c.as_slice.ensures c.in_ok-sorted.ensures in
    let good = sym (bad_same (λ b. (goal.Actor-dyn g (b.vtable, b.value)).state b.value) casts c.args.roles same c.args.steps plans sorted)
    ∙ c.in-Ok.ensures.good in
    let owners = c.in-Ok.recorded.joined.owners.items in
    let ends = map (λ actor. end_view (λ b. (goal.Actor-dyn g (b.vtable, b.value)).state b.value) actor.ended) c.in-Ok.recorded.joined.actors.items in
    let play = plays c.args.roles c.args.steps owners ends c.in-Ok.recorded.events.items
    (joined_same (λ b. (goal.Actor-dyn g (b.vtable, b.value)).state b.value) casts c.args.roles same c.args.steps plans sorted ends c.in-Ok.ensures.joined)
    (subst (λ casts. IsPlayOf casts c.in-Ok.recorded.events.items owners ends) same c.in-Ok.ensures.played)
    (planned_same (λ b. (goal.Actor-dyn g (b.vtable, b.value)).state b.value) casts c.args.roles same c.args.steps plans sorted owners ends
    c.in-Ok.ensures.planned) in
    subst (IsOutput c.output_of_play.result) (sym (good_script c.args.roles c.args.steps c.requires.roles (no_bad_line script good c.requires.known)))
    (c.output_of_play.ensures script (sym c.as_slice-in-Ok.ensures) (subst (IsPlay script) (sym c.deref.ensures.value) play))

pub output_of_no_play-requires : goal.output_of_no_play-requires
output_of_no_play-requires g c =
    let casts = c.in_ok-casts.casts.items in let plans = c.in_ok-sorted.sorted.plans.items in
    let same = of_roles c.in_ok-casts.ensures c.in_ok-one.ensures c.as_slice-2.ensures in
    let sorted = sorted_plans c.as_slice.ensures c.in_ok-sorted.ensures in
    has_line_of c.args.roles c.args.steps c.deref-in-Err.result.now (ap (map step_line_view) c.deref-in-Err.ensures.value
    ∙ c.in_ok-sorted.ensures.step_lines) c.requires.known (map (actor_spec (λ b. (goal.Actor-dyn g (b.vtable, b.value)).state b.value)) casts)
    (map plan_view plans)
    (bad_same (λ b. (goal.Actor-dyn g (b.vtable, b.value)).state b.value) casts c.args.roles same c.args.steps plans sorted) c.in-Err.fault
    c.in-Err.ensures.fault

pub returns : goal.returns
returns g c =
    let casts = c.in_ok-casts.casts.items in let plans = c.in_ok-sorted.sorted.plans.items in
    let same = of_roles c.in_ok-casts.ensures c.in_ok-one.ensures c.as_slice-2.ensures in
    let sorted = sorted_plans c.as_slice.ensures c.in_ok-sorted.ensures in
    c.output_of_no_play.ensures (with_good_plans 16 8 (Ok (script_of c.args.roles c.args.steps)))
    (is_explained c.args.roles c.args.steps c.deref-in-Err.result.now (ap (map step_line_view) c.deref-in-Err.ensures.value ∙ c.in_ok-sorted.ensures.step_lines)
    c.requires.known (map (actor_spec (λ b. (goal.Actor-dyn g (b.vtable, b.value)).state b.value)) casts) (map plan_view plans)
    (bad_same (λ b. (goal.Actor-dyn g (b.vtable, b.value)).state b.value) casts c.args.roles same c.args.steps plans sorted) c.in-Err.fault c.requires.roles
    c.in-Err.ensures.fault)
