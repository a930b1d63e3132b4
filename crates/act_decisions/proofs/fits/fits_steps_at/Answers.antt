use Rattle.act_decisions.proofs.Common.{◌≡◌, subst, rules, FitsSteps, read_is}
use Rattle.act_decisions.proofs.fits.fits_steps_at.Goals as goal

pub returns-in-Some : goal.returns-in-Some
returns-in-Some c = λ holds.
    let same : c.unwrap-c.result ≡ c.args.number = search rules in (
      c.in-Some.caller.now,
      read_is c.args.number c.deref.ensures.value c.in-Some.ensures.lookup.0 c.in-Some.ensures.lookup.1,
      subst (λ d. FitsSteps d c.args.steps.now c.in-Some.caller.now) same (c.fits_steps.ensures holds),
    )
