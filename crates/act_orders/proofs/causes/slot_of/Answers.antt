use Rattle.act_orders.proofs.Common.{◌≡◌, ◌≤◌, ◌<◌, ◌-◌, ◌∙◌, ap, subst, length, get_or, arith, taken_by}
use Rattle.act_orders.proofs.Causing.{taken_some, taken_none}
use Rattle.act_orders.proofs.causes.slot_of.Goals as goal

pub returns-in-Some : goal.returns-in-Some
returns-in-Some c =
    let told = c.args.told.now in let h = c.args.happening in let n = c.args.number in
    let at = c.in-Some.ensures.lookup.3 in let t = c.taken_by.ensures in
    let lt : n - 2 < length (taken_by told h) = subst (λ ks. n - 2 < length ks) t at.0 in
    let is : c.in-Some.call.now ≡ get_or (taken_by told h) (n - 2) 0 = at.1 0 ∙ ap (λ ks. get_or ks (n - 2) 0) t in
    taken_some told c.args.places.now h n (λ e. omega arith) (λ e. omega arith) lt is

pub returns-in-None : goal.returns-in-None
returns-in-None c =
    let told = c.args.told.now in let h = c.args.happening in let n = c.args.number in
    let far : length (taken_by told h) ≤ n - 2 = subst (λ ks. length ks ≤ n - 2) c.taken_by.ensures c.in-None.ensures.lookup.3 in
    taken_none told c.args.places.now h n (λ e. omega arith) (λ e. omega arith) far
