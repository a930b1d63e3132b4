use Rattle.example_callers.proofs.Common.{map, actor_spec}
use Rattle.example_callers.proofs.Left.{transferred, are_balanced}
use Rattle.example_callers.proofs.Totals.{keeps_the_sum}
use Rattle.example_callers.proofs.run.run_transfers.Goals as goal

pub returns-clause-guarded : goal.returns-clause-guarded
returns-clause-guarded g c =
    let casts = map (actor_spec g.K.Actor.state) c.args.casts.items in
    let left = c.in_ok-joined.joined in
    let by = c.in_ok-joined.ensures.joined in
    λ k d below. transferred _ (by.told k d below)

pub returns-clause-kept : goal.returns-clause-kept
returns-clause-kept g c =
    let state = g.K.Actor.state in
    let left = c.in_ok-joined.joined in
    let by = c.in_ok-joined.ensures.joined in
    are_balanced by.joined

pub returns-clause-sum : goal.returns-clause-sum
returns-clause-sum g c =
    let state = g.K.Actor.state in
    let left = c.in_ok-joined.joined in
    let by = c.in_ok-joined.ensures.joined in
    keeps_the_sum by.steps by.joined
