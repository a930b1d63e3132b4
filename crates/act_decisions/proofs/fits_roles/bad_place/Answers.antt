use Rattle.act_decisions.proofs.Common.{sym, ap, ◌∙◌, subst, ◌≢◌, AllPairs, first_bad}
use Rattle.act_rules.proofs.Planned.{actors_of-actor_spec}
use Rattle.act_decisions.proofs.Fitting.{naming_differ}
use Rattle.act_decisions.proofs.fits_roles.bad_place.Goals as goal

pub bad_step-requires-clause-differ : goal.bad_step-requires-clause-differ
bad_step-requires-clause-differ c =
    subst (λ actors. AllPairs (λ one other. one ≢ other) actors)
    (sym (c.deref.ensures.value ∙ c.in_ok-actors.ensures ∙ actors_of-actor_spec c.args.c c.args.roles.now))
    (naming_differ c.args.c c.requires.roles)

pub returns : goal.returns
returns c = c.in_ok-bad.ensures ∙
    ap (λ actors. first_bad actors c.args.plan.now) (c.deref.ensures.value ∙ c.in_ok-actors.ensures ∙ actors_of-actor_spec c.args.c c.args.roles.now)
