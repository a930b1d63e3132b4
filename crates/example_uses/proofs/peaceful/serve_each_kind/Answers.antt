use Rattle.example_uses.proofs.Common.{◌≡◌, ◌<◌, true, length, map, ap, sym, ◌∙◌, arith, subst, list_all, plan_view, err_only, most_steps, is_peaceful}
use Rattle.example_uses.proofs.Common.{casts_for, IsServeFault}
use Rattle.example_uses.proofs.Peace.{joined_with, ran_with}
use Rattle.example_uses.proofs.Fits.{served}
use Rattle.example_uses.proofs.peaceful.serve_each_kind.Goals as goal

pub returns-clause-joined : goal.returns-clause-joined
returns-clause-joined g c = joined_with c.in_ok-casts.ensures (ap (map plan_view) c.in_ok-plans.ensures) c.in_ok-joined.ensures.joined

pub returns-clause-answered : goal.returns-clause-answered
returns-clause-answered g c = ran_with c.in_ok-casts.ensures c.in_ok-joined.ensures.answered

pub returns-in_err-joined-clause-fault : goal.returns-in_err-joined-clause-fault
returns-in_err-joined-clause-fault g c =
    let state = g.K.Actor.state in
    let casts = c.in_ok-casts.casts.items in
    let plans = c.in_ok-plans.plans.items in
    let failed = c.in_err-joined.field-0.0 in
    let peace : list_all is_peaceful c.args.plan.items ≡ true = sym c.is_peaceful_plan.ensures ∙ c.if-not-is_peaceful_plan.false in
    let short : length c.args.plan.items < most_steps = omega (arith, c.if-len-ge-MAX_STEPS.false, c.len.ensures, c.args.plan.ok.0) in
    let known = served state c.args.c c.args.kinds casts plans c.args.plan c.in_ok-casts.ensures c.in_ok-plans.ensures peace short failed
    c.in_err-joined.ensures.fault in
    err_only c.from_residual-in_err-joined.result (λ f. f ≡ failed) (IsServeFault (casts_for state c.args.c c.args.kinds) c.args.c c.args.plan.items)
    c.from_residual-in_err-joined.ensures.1 (λ f is. subst (IsServeFault (casts_for state c.args.c c.args.kinds) c.args.c c.args.plan.items) (sym is) known)
