use Rattle.act_resolver.proofs.Common.{◌∙◌, ap, rules, is_told}
use Rattle.act_resolver.proofs.Counting.{known_is}
use Rattle.act_resolver.proofs.resolver.Resolver.is_known.Goals as goal

pub returns : goal.returns
returns c =
    search rules
    ∙ known_is c.self.inside.calls.items c.args.k c.self.invariant.counted
    ∙ ap (λ v. is_told v.calls c.args.k) c.self.view_is
