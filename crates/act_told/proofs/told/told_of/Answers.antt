use Rattle.act_told.proofs.Common.{map, ◌++◌, ◌∙◌, ap, length, end_view, Finished, calls_told, actor_told, starts_from, runs_by}
use Rattle.act_told.proofs.Going.{told_is}
use Rattle.act_told.proofs.told.told_of.Goals as goal

pub returns : goal.returns
returns g c =
    let view = λ (actor : Finished _ _). end_view g.K.Actor.state actor.ended in
    let owners = c.args.joined.now.owners.items in let actors = c.args.joined.now.actors.items in
    let owners_at = c.as_slice-owners.result.now in let actors_at = c.as_slice-actors.result.now in
    told_is owners (map view actors)
    (c.in_ok-starts.ensures.calls ∙ ap (λ t. t ++ calls_told (map view actors_at) (length t) owners_at) c.new-calls.ensures ∙ ap
    (λ t. calls_told (map view actors_at) 0 t) c.as_slice-owners.ensures.value ∙ ap (λ t. calls_told (map view t) 0 owners) c.as_slice-actors.ensures.value)
    (c.in_ok-starts.ensures.starts ∙ ap (λ t. starts_from (length t) owners_at) c.new-calls.ensures ∙ ap (λ t. starts_from 0 t) c.as_slice-owners.ensures.value)
    (ap length c.as_slice-all.ensures)
    (c.in_ok-runs.ensures ∙ ap (λ t. runs_by t (length c.as_slice-all.result.now) 0 (map view actors_at)) c.as_slice.ensures.value
    ∙ ap (λ t. runs_by c.in_ok-starts.starts.items (length c.as_slice-all.result.now) 0 (map view t)) c.as_slice-actors.ensures.value)
    (c.in_ok-actors.ensures ∙ ap (λ t. map (actor_told t) (map view actors_at)) c.as_slice-owners.ensures.value
    ∙ ap (λ t. map (actor_told owners) (map view t)) c.as_slice-actors.ensures.value)
    c.new.ensures
