use Rattle.example_callers.proofs.Common.{map, actor_spec}
use Rattle.example_callers.proofs.Orders.{has_left}
use Rattle.example_callers.proofs.buyers.run_buyers.Goals as goal

pub returns-clause-paid : goal.returns-clause-paid
returns-clause-paid g c = λ k d less.
    let by = c.in_ok-joined.ensures.joined in
    has_left (map (actor_spec g.K.Actor.state) c.args.casts.items) by.steps c.in_ok-joined.joined.owners.items _ (by.told k d less)
