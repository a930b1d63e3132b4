use Rattle.act_decisions.proofs.Common.{◌≤◌, length, sym, ◌∙◌, subst, read_is}
use Rattle.act_decisions.proofs.Fitting.{callers_said, role_found, unsaid}
use Rattle.act_decisions.proofs.fits_roles.fits_role.Goals as goal

pub returns-in-None : goal.returns-in-None
returns-in-None c = λ holds. unsaid c.args.end.now c.args.a (subst (λ actors. length actors ≤ c.args.a) c.deref.ensures.value c.in-None.ensures.lookup.3) ∙
    c.are_callers_of.ensures holds ∙ role_found c.args.roles.now c.args.a c.role_at-role.ensures

pub returns-in-Some : goal.returns-in-Some
returns-in-Some c = λ holds. callers_said c.args.end.now c.args.a (read_is c.args.a c.deref.ensures.value c.in-Some.ensures.lookup.0 c.in-Some.ensures.lookup.1)
    ∙ sym c.deref-in-Some.ensures.value ∙ c.are_callers_of-in-Some.ensures holds ∙ role_found c.args.roles.now c.args.a c.role_at-role.ensures
