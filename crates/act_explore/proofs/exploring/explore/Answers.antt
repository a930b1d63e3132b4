use Rattle.act_explore.proofs.Common.{map, sym, subst, All, All-nil, plan_of, plan_view, Found, LeadsToEnd, HasPassed, IsFoundBy, IsFound}
use Rattle.act_explore.proofs.Answering.{each_end_weaker, each_run_weaker}
use Rattle.act_explore.proofs.Collecting.{passed_found}
use Rattle.act_explore.proofs.exploring.explore.Goals as goal

pub returns-in-Whole-clause-sound : goal.returns-in-Whole-clause-sound
returns-in-Whole-clause-sound g c =
    let P : Found → Type 0 = λ (found : Found). LeadsToEnd (g.O.Opening.casts c.args.opening.now)
    (λ d. plan_of d (map plan_view c.args.plans.items)) found.events.items in
    c.in_ok-visit_ends.ensures.keeps (record { found = c.new.result }) (subst (All P) (sym c.new.ensures.items) (All-nil P))

pub returns-in-Whole-clause-complete : goal.returns-in-Whole-clause-complete
returns-in-Whole-clause-complete g c = λ is.
    let casts = g.O.Opening.casts c.args.opening.now in let all = c.visit_ends.new.visit.found.items in
    each_end_weaker casts (map plan_view c.args.plans.items) (HasPassed casts (IsFoundBy all)) (IsFound casts all) (passed_found casts all)
    (c.visit_ends.ensures.ends (cc (c.in_ok-visit_ends.was, c.in-Whole.is)))

pub returns-in-Whole-clause-threads : goal.returns-in-Whole-clause-threads
returns-in-Whole-clause-threads g c = λ is.
    let casts = g.O.Opening.casts c.args.opening.now in let all = c.visit_ends.new.visit.found.items in
    each_run_weaker casts (map plan_view c.args.plans.items) (HasPassed casts (IsFoundBy all)) (IsFound casts all) (passed_found casts all)
    (c.visit_ends.ensures.runs (cc (c.in_ok-visit_ends.was, c.in-Whole.is)))

pub returns-in_default-clause-sound : goal.returns-in_default-clause-sound
returns-in_default-clause-sound g c =
    let P : Found → Type 0 = λ (found : Found). LeadsToEnd (g.O.Opening.casts c.args.opening.now)
    (λ d. plan_of d (map plan_view c.args.plans.items)) found.events.items in
    c.in_ok-visit_ends.ensures.keeps (record { found = c.new.result }) (subst (All P) (sym c.new.ensures.items) (All-nil P))
