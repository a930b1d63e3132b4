use Rattle.act_orders.proofs.Common.{◌≡◌, ◌<◌, length, ap, sym, subst, ◌∙◌, Actor, actor_of, Rises}
use Rattle.act_orders.proofs.Wholes.{rise_told, some_items}
use Rattle.act_orders.proofs.whole.role_fits.Goals as goal

pub returns-then-not-is_empty : goal.returns-then-not-is_empty
returns-then-not-is_empty c =
    let told = c.args.told.now in let a = c.args.place in let xs = c.as_slice-callers.result.now in
    let same : xs ≡ (actor_of told a).callers = c.as_slice-callers.ensures ∙ ap (λ (x : Actor). x.callers) c.actor.ensures in
    let says = rise_told xs c.is_sorted.result c.is_sorted.ensures.cases in (
      (λ yes. record {
        named = subst (λ ks. 0 < length ks) same (some_items (length xs) (sym c.is_empty.ensures ∙ c.if-not-is_empty.true));
        rises = subst Rises same (says.0 yes);
      }),
      (λ fit. says.1 (subst Rises (sym same) fit.rises)),
    )
