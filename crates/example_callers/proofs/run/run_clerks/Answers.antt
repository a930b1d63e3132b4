use Rattle.example_callers.proofs.Common.{map, [], refl, actor_spec, end_view, run_keeps, queue_step, queue_text, IsInOrder, order_is_kept}
use Rattle.example_callers.proofs.Left.{are_balanced}
use Rattle.example_callers.proofs.run.run_clerks.Goals as goal

pub returns-clause-kept : goal.returns-clause-kept
returns-clause-kept g c =
    let state = g.K.Actor.state in
    let left = c.in_ok-joined.joined in
    let by = c.in_ok-joined.ensures.joined in
    are_balanced by.joined

pub returns-clause-order : goal.returns-clause-order
returns-clause-order g c = λ a opens.
    let state = g.K.Actor.state in
    let left = c.in_ok-joined.joined in
    let by = c.in_ok-joined.ensures.joined in
    run_keeps queue_step queue_text IsInOrder order_is_kept [] refl
    (map (actor_spec state) c.args.casts.items) by.steps left.owners.items
    (map (λ actor. end_view state actor.ended) left.actors.items) by.joined a opens
