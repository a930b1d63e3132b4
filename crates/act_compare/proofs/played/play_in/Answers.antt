use Rattle.std.proofs.Common.{◌↔◌, [], subst, All, IsOk, IsTrue}
use Rattle.act_world.specs.View.{world_view}
use Rattle.act_compare.proofs.Playing.{told_in}
use Rattle.act_compare.proofs.played.play_in.Goals as goal

pub returns-clause-accepted : goal.returns-clause-accepted
returns-clause-accepted g c = λ casts opened. told_in casts c.args.events.now (world_view g.K.Actor.state c.args.world.now)
    (world_view g.K.Actor.state c.play.new.self) c.new-told.result.items c.play.new.told.items c.are_accepted.result c.new-told.ensures.items c.in-Ok.ensures.ok
    (subst (λ told. IsTrue c.are_accepted.result ↔ All IsOk told) c.deref.ensures.value c.are_accepted.ensures) opened

pub returns-clause-reached : goal.returns-clause-reached
returns-clause-reached g c = λ casts opened. (c.in-Ok.ensures.ok casts [] opened).0
