use Rattle.act_orders.proofs.Common.{◌≡◌, sym, subst, IsTrue, length, ◌<◌, Ran, Happened, call_in}
use Rattle.act_orders.proofs.Finding.{run_tells}
use Rattle.act_orders.proofs.causes.has_happened.Goals as goal

pub returns-in-Ran : goal.returns-in-Ran
returns-in-Ran c =
    let told = c.args.told.now in let places = c.args.places.now in let n = c.in-Ran.call in
    let is : c.args.happening ≡ Ran n = c.in-Ran.is in
    let says = run_tells told places n c.requires.places (subst (λ h. call_in h < length told.calls) is c.requires.within)
    c.is_some.ensures in
    subst (λ h. (IsTrue c.is_some.result → Happened told h) × (Happened told h → IsTrue c.is_some.result)) (sym is) says
