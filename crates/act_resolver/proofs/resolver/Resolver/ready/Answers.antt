use Rattle.act_resolver.proofs.Common.{◌≡◌, ◌∙◌, ap, rules, least_ready}
use Rattle.act_resolver.proofs.Counting.{first_ready_is}
use Rattle.act_resolver.proofs.resolver.Resolver.ready.Goals as goal

pub returns : goal.returns
returns c =
    let same : c.map.result ≡ c.least.result = search rules in
    same
    ∙ first_ready_is c.self.inside.calls.items c.self.inside.ready c.least.result c.self.invariant.counted c.self.invariant.free c.least.ensures
    ∙ ap (λ v. least_ready v.calls) c.self.view_is
