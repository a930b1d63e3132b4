use Rattle.act_world.proofs.Common.{length, drop, subst, world_view, ShowsWhatIsTold}
use Rattle.act_world.proofs.Shown.{unplayed_shows}
use Rattle.act_world.proofs.world.World.play.Goals as goal

pub returns-in_default-clause-shown : goal.returns-in_default-clause-shown
returns-in_default-clause-shown g c =
    λ casts before reached. unplayed_shows c.args.events.now (world_view g.K.Actor.state c.args.self.now) c.reserve.ensures.items

pub returns-clause-shown : goal.returns-clause-shown
returns-clause-shown g c = λ casts before reached. subst (λ told. ShowsWhatIsTold c.args.events.now (drop (length told) c.play_reserved.new.told.items)
    (world_view g.K.Actor.state c.args.self.now) (world_view g.K.Actor.state c.play_reserved.new.self)) c.reserve.ensures.items
    (c.play_reserved.ensures.shown casts before reached)
