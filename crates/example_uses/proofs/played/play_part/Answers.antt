use Rattle.example_uses.proofs.Common.{take, ap, ◌∙◌, subst, HasPlayed, world_view}
use Rattle.example_uses.proofs.played.play_part.Goals as goal

pub returns-clause-err : goal.returns-clause-err
returns-clause-err g c = λ script read. subst (λ events. HasPlayed (take c.in-Err.place events) (world_view g.K.Actor.state c.args.world.now)
    (world_view g.K.Actor.state c.play.new.self) c.args.told.now.items c.play.new.told.items) (c.first_events-part.ensures ∙
    ap (λ events. take c.args.count events) (c.as_slice.ensures ∙ c.in_ok-events.ensures.events script read)) c.in-Err.ensures.err
