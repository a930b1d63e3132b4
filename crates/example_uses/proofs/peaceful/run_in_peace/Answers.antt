use Rattle.example_uses.proofs.Common.{◌≡◌, true, map, ap, sym, ◌∙◌, list_all, list_all-map, actor_spec, end_view, plan_view, is_peaceful, are_peaceful}
use Rattle.example_uses.proofs.Peace.{all_ran}
use Rattle.example_uses.proofs.peaceful.run_in_peace.Goals as goal

pub returns-clause-answered : goal.returns-clause-answered
returns-clause-answered g c =
    let state = g.K.Actor.state in
    let plans = c.args.plans.items in
    let left = c.in_ok-joined.joined in
    let peace : are_peaceful plans ≡ true = ap are_peaceful (sym c.as_slice.ensures.value) ∙ sym c.are_peaceful.ensures ∙ c.if-not-are_peaceful.false in
    all_ran (map (actor_spec state) c.args.casts.items) (map plan_view plans) left.owners.items
    (map (λ actor. end_view state actor.ended) left.actors.items) c.in_ok-joined.ensures.joined
    (list_all-map (λ plan. list_all is_peaceful plan.1) plan_view plans ∙ peace)
