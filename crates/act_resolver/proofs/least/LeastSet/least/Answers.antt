use Rattle.act_resolver.proofs.Common.{◌≡◌, None, Some, sym, subst, rules, IsLeast, has_any, has_bit}
use Rattle.act_resolver.proofs.Levels.{first_same, least_is, none_below, none_is_least}
use Rattle.act_resolver.proofs.least.LeastSet.least.Goals as goal

pub first_in-requires : goal.first_in-requires
first_in-requires c =
    first_same (has_bit c.self.inside.inner) (has_any c.self.inside.leaves) c.first_in-leaf.result c.self.invariant.0.tells c.first_in-leaf.ensures.first

pub returns-in_err-top : goal.returns-in_err-top
returns-in_err-top c =
    let none = none_below c.self.invariant.0 (none_below c.self.invariant.1 c.in_err-top.ensures) in
    let is : c.from_residual.result ≡ None = search rules in
    subst (λ r. IsLeast c.args.self.now r) (sym is) (subst (λ m. IsLeast m None) c.self.view_is (none_is_least c.self.inside.leaves none))

pub returns : goal.returns
returns c = subst (λ m. IsLeast m (Some c.first_in.result)) c.self.view_is (least_is c.self.inside.leaves c.first_in.result c.first_in.ensures.first)
