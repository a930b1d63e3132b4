use Rattle.act_told.proofs.Common.{◌==◌, sym, ◌∙◌, position_or_len-Some, end_view, end_id, Finished}
use Rattle.act_told.proofs.Places.{place_mapped, place_missing}
use Rattle.act_told.proofs.actors.actor_place.Goals as goal

pub returns-in-Some : goal.returns-in-Some
returns-in-Some g c =
    sym (place_mapped (λ (one : Finished _ _). end_view g.K.Actor.state one.ended) (λ end. end_id end == c.args.id) c.args.actors.now ∙ position_or_len-Some
    (λ (one : Finished _ _). end_id (end_view g.K.Actor.state one.ended) == c.args.id) c.args.actors.now (sym c.found_at.ensures ∙ c.in-Some.is))

pub returns-in-None : goal.returns-in-None
returns-in-None g c =
    sym (place_mapped (λ (one : Finished _ _). end_view g.K.Actor.state one.ended) (λ end. end_id end == c.args.id) c.args.actors.now ∙ place_missing
    (λ (one : Finished _ _). end_id (end_view g.K.Actor.state one.ended) == c.args.id) c.args.actors.now (sym c.found_at.ensures ∙ c.in-None.is))
