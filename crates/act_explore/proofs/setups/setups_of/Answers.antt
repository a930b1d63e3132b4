use Rattle.act_explore.proofs.Common.{◌≡◌, true, false, map, slice_get, None, refl, sym, ap, ◌∙◌, subst, filter_map, bad_of_setup, plan_of, first_bad_plan}
use Rattle.act_explore.proofs.Common.{PlansFit, bad_view, HoldPlans, plan_view, AreOfARun, of_a_run, AreSuited}
use Rattle.act_explore.proofs.Holding.{holding, suited, fits}
use Rattle.act_explore.proofs.setups.setups_of.Goals as goal
use Rattle.act_executor.proofs.OpenLines.Faults.{none_left}

pub returns-then-not-plans_fit-clause-fault : goal.returns-then-not-plans_fit-clause-fault
returns-then-not-plans_fit-clause-fault g c = λ suit.
    let casts = c.in_ok-casts.casts.items in let plans = c.args.plans.items in
    let fit : PlansFit casts plans = fits g.K.Actor.state casts plans (subst (λ l. AreSuited l plans) (sym c.in_ok-casts.ensures.casts) suit)
    in
    let other : PlansFit c.as_slice.result.now plans = subst (λ l. PlansFit l plans) (sym c.as_slice.ensures.value) fit in
    let never : false ≡ true = c.if-not-plans_fit.ensures.1
    (subst (λ l. PlansFit c.as_slice.result.now l) (sym c.as_slice-2.ensures.value) other) in
    absurd (cc)

pub returns-in-Some-clause-fault : goal.returns-in-Some-clause-fault
returns-in-Some-clause-fault g c =
    let setups = c.in_ok-prepared.prepared.setups.items in let plans = c.args.plans.items in
    ap (λ l. first_bad_plan l (map plan_view plans)) (sym c.in_ok-casts.ensures.casts)
    ∙ bad_view g.K.Actor.state c.in_ok-casts.casts.items plans setups c.in_ok-prepared.ensures.setups
    ∙ ap (λ l. slice_get (filter_map bad_of_setup l) 0) (sym c.as_slice-3.ensures.value) ∙ sym c.in_ok-bad.ensures ∙ c.in-Some.is

pub returns-clause-hold : goal.returns-clause-hold
returns-clause-hold g c =
    let casts = c.in_ok-casts.casts.items in let plans = c.args.plans.items in
    let other : PlansFit c.as_slice.result.now plans =
    subst (λ l. PlansFit c.as_slice.result.now l) c.as_slice-2.ensures.value (c.if-not-plans_fit.ensures.0 refl) in
    let fit : PlansFit casts plans = subst (λ l. PlansFit l plans) c.as_slice.ensures.value other in
    subst (λ l. HoldPlans l (λ d. plan_of d (map plan_view plans)) c.in_ok-prepared.prepared.setups.items) c.in_ok-casts.ensures.casts
    (holding g.K.Actor.state casts plans c.in_ok-prepared.prepared.setups.items c.in_ok-prepared.ensures.setups
    (of_a_run g.K.Actor.state c.in_ok-prepared.ensures.numbers fit))

pub returns-clause-run : goal.returns-clause-run
returns-clause-run g c =
    let casts = c.in_ok-casts.casts.items in let plans = c.args.plans.items in
    let other : PlansFit c.as_slice.result.now plans =
    subst (λ l. PlansFit c.as_slice.result.now l) c.as_slice-2.ensures.value (c.if-not-plans_fit.ensures.0 refl) in
    let fit : PlansFit casts plans = subst (λ l. PlansFit l plans) c.as_slice.ensures.value other in
    subst (λ l. AreOfARun l (map plan_view plans)) c.in_ok-casts.ensures.casts
    (of_a_run g.K.Actor.state c.in_ok-prepared.ensures.numbers fit)

pub returns-clause-suited : goal.returns-clause-suited
returns-clause-suited g c =
    let casts = c.in_ok-casts.casts.items in let plans = c.args.plans.items in
    let other : PlansFit c.as_slice.result.now plans =
    subst (λ l. PlansFit c.as_slice.result.now l) c.as_slice-2.ensures.value (c.if-not-plans_fit.ensures.0 refl) in
    let fit : PlansFit casts plans = subst (λ l. PlansFit l plans) c.as_slice.ensures.value other in
    subst (λ l. AreSuited l plans) c.in_ok-casts.ensures.casts (suited g.K.Actor.state casts plans fit)

pub returns-clause-good : goal.returns-clause-good
returns-clause-good g c =
    let setups = c.in_ok-prepared.prepared.setups.items in let plans = c.args.plans.items in
    subst (λ l. first_bad_plan l (map plan_view plans) ≡ None) c.in_ok-casts.ensures.casts
    (bad_view g.K.Actor.state c.in_ok-casts.casts.items plans setups c.in_ok-prepared.ensures.setups ∙ ap (λ l. slice_get (filter_map bad_of_setup l) 0)
    (sym c.as_slice-3.ensures.value) ∙ sym c.in_ok-bad.ensures ∙ none_left c.in_ok-bad.field-0 c.in_default.not-Some)
