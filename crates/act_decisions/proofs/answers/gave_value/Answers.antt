use Rattle.act_decisions.proofs.Common.{◌≡◌, length, Some, None, Ok, refl, sym, ap, ◌∙◌, slice_get, read_is, ltb-false, slice_get_past}
use Rattle.act_decisions.proofs.answers.gave_value.Goals as goal

pub returns-in-None : goal.returns-in-None
returns-in-None c = λ casts end are.
    let there : slice_get c.args.all.now c.args.a ≡ Some c.in_ok-told.told.now =
    ap (λ n. slice_get c.args.all.now n) (sym c.number.ensures.value)
    ∙ read_is {read = c.args.all.now} {items = c.args.all.now} c.number.result refl c.in_ok-told.ensures.lookup.0 c.in_ok-told.ensures.lookup.1 in
    let told = are c.args.a c.in_ok-told.told.now there c.args.p in
    let none : slice_get c.in_ok-told.told.now.answers.items c.args.p ≡ None =
    ap (λ l. slice_get l c.args.p) (sym c.deref.ensures.value)
    ∙ slice_get_past c.deref.result.now c.args.p (ltb-false c.args.p (length c.deref.result.now) (sym c.in-None.ensures.lookup.0)) in (
      λ is. cc,
      λ gave. let bad : None ≡ Some (Ok gave.0) = sym none ∙ told ∙ gave.1 in cc,
    )
