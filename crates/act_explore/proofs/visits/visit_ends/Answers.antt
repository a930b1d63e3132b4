use Rattle.act_explore.proofs.Common.{map, sym, subst, plan_of, HoldPlans, plan_view}
use Rattle.act_explore.proofs.Answering.{each_end, each_run}
use Rattle.act_explore.proofs.visits.visit_ends.Goals as goal

pub returns-clause-ends : goal.returns-clause-ends
returns-clause-ends g c = λ is.
    let casts = g.O.Opening.casts c.args.opening.now in let plans = map plan_view c.args.plans.items in
    let hold : HoldPlans casts (λ d. plan_of d plans) c.as_slice.result.now =
    subst (λ l. HoldPlans casts (λ d. plan_of d plans) l) (sym c.as_slice.ensures.value) c.in_ok-setups.ensures.hold in
    let seen = c.search_all.ensures.whole (cc (c.in_ok-searched.was, is)) (λ d. plan_of d plans) hold in
    each_end casts plans (g.V.Visit.passed c.search_all.new.visit casts) seen.0 seen.1

pub returns-clause-runs : goal.returns-clause-runs
returns-clause-runs g c = λ is.
    let casts = g.O.Opening.casts c.args.opening.now in let plans = map plan_view c.args.plans.items in
    let hold : HoldPlans casts (λ d. plan_of d plans) c.as_slice.result.now =
    subst (λ l. HoldPlans casts (λ d. plan_of d plans) l) (sym c.as_slice.ensures.value) c.in_ok-setups.ensures.hold in
    let seen = c.search_all.ensures.whole (cc (c.in_ok-searched.was, is)) (λ d. plan_of d plans) hold in
    each_run casts plans (g.V.Visit.passed c.search_all.new.visit casts) seen.0 seen.1 c.in_ok-setups.ensures.run

pub returns-clause-keeps : goal.returns-clause-keeps
returns-clause-keeps g c = λ first keeps.
    let casts = g.O.Opening.casts c.args.opening.now in let plans = map plan_view c.args.plans.items in
    let hold : HoldPlans casts (λ d. plan_of d plans) c.as_slice.result.now =
    subst (λ l. HoldPlans casts (λ d. plan_of d plans) l) (sym c.as_slice.ensures.value) c.in_ok-setups.ensures.hold in
    c.in_ok-searched.ensures.keeps first (λ d. plan_of d plans) hold keeps
