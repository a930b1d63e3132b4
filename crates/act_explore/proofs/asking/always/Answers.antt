use Rattle.act_explore.proofs.Common.{map, None, refl, sym, subst, history, plan_view, HasPassed}
use Rattle.act_explore.proofs.Answering.{each_end_weaker, each_run_weaker}
use Rattle.act_explore.proofs.Oks.{not_none}
use Rattle.std.proofs.lemmas.Option.{IfSome_then}
use Rattle.act_explore.proofs.asking.always.Goals as goal

pub returns-in-Whole-clause-runs : goal.returns-in-Whole-clause-runs
returns-in-Whole-clause-runs g c = λ is.
    let casts = g.O.Opening.casts c.args.opening.now in let plans = map plan_view c.args.plans.items in
    let kept = c.in_ok-visit_ends.ensures.keeps (record { check = c.args.check; found = None }) (refl, tt) in
    each_run_weaker casts plans (HasPassed casts (λ events. g.C.Check.holds c.visit_ends.new.visit.check.now (history casts events)))
    (g.C.Check.holds c.args.check.now)
    (λ h p. subst (λ x. g.C.Check.holds c.args.check.now x) (sym p.history_is) (subst (λ d. g.C.Check.holds d (history casts p.events)) kept.0 p.passed))
    (c.visit_ends.ensures.runs (cc (c.in_ok-visit_ends.was, c.in-Whole.is)))

pub returns-in-Whole-clause-ends : goal.returns-in-Whole-clause-ends
returns-in-Whole-clause-ends g c = λ is.
    let casts = g.O.Opening.casts c.args.opening.now in let plans = map plan_view c.args.plans.items in
    let kept = c.in_ok-visit_ends.ensures.keeps (record { check = c.args.check; found = None }) (refl, tt) in
    each_end_weaker casts plans (HasPassed casts (λ events. g.C.Check.holds c.visit_ends.new.visit.check.now (history casts events)))
    (g.C.Check.holds c.args.check.now)
    (λ h p. subst (λ x. g.C.Check.holds c.args.check.now x) (sym p.history_is) (subst (λ d. g.C.Check.holds d (history casts p.events)) kept.0 p.passed))
    (c.visit_ends.ensures.ends (cc (c.in_ok-visit_ends.was, c.in-Whole.is)))

pub returns-in-Stopped-clause-runs : goal.returns-in-Stopped-clause-runs
returns-in-Stopped-clause-runs g c = λ is.
    absurd (not_none c.visit_ends.new.visit.found (c.visit_ends.ensures.stopped (cc (c.in_ok-visit_ends.was, c.in-Stopped.is))) (cc (is)))

pub returns-in-Stopped-clause-found : goal.returns-in-Stopped-clause-found
returns-in-Stopped-clause-found g c =
    let kept = c.in_ok-visit_ends.ensures.keeps (record { check = c.args.check; found = None }) (refl, tt) in
    IfSome_then c.visit_ends.new.visit.found kept.1 (λ events both. both.0)

pub returns-in-Stopped-clause-breaks : goal.returns-in-Stopped-clause-breaks
returns-in-Stopped-clause-breaks g c =
    let kept = c.in_ok-visit_ends.ensures.keeps (record { check = c.args.check; found = None }) (refl, tt) in
    IfSome_then c.visit_ends.new.visit.found kept.1 (λ events both. both.1)
