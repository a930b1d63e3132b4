use Rattle.example_kinds.proofs.Common.{map, replicate, actor_spec, end_view, plan_view, run_keeps, bank_step, bank_text, HoldsItsMoney}
use Rattle.example_kinds.proofs.Keeps.{keeps, empty}
use Rattle.example_kinds.proofs.kept.run_banks.Goals as goal

pub returns-clause-kept : goal.returns-clause-kept
returns-clause-kept g c = λ a accounts opens.
    let state = g.K.Actor.state in
    let left = c.in_ok-joined.joined in
    run_keeps bank_step bank_text HoldsItsMoney keeps (replicate accounts 0) (empty accounts)
    (map (actor_spec state) c.args.casts.items) (map plan_view c.args.plans.items) left.owners.items
    (map (λ actor. end_view state actor.ended) left.actors.items) c.in_ok-joined.ensures.joined a opens
