use Rattle.example_uses.proofs.Common.{◌+◌, ◌≤◌, length, length-drop, arith, world_view}
use Rattle.example_uses.proofs.Playing.{played_on, played_out}
use Rattle.example_uses.proofs.patient.play_patiently.Goals as goal

pub loop-attempt-preserved : goal.loop-attempt-preserved
loop-attempt-preserved g c = record {
  within = within;
  played = played_on c.args.events.now c.loop-attempt.place c.in-Err.more (world_view g.K.Actor.state c.args.world.now)
      (world_view g.K.Actor.state c.loop-attempt.world) (world_view g.K.Actor.state c.play.new.self) c.args.told.now.items c.loop-attempt.told.items
      c.play.new.told.items c.loop-attempt.invariant.played c.in-Err.ensures.err;
}
  where
    within : c.loop-attempt.place + c.in-Err.more ≤ length c.args.events.now
    within = let below = c.in-Err.ensures.place in omega (arith, length-drop c.loop-attempt.place c.args.events.now)

pub returns-in-Ok-clause-ok : goal.returns-in-Ok-clause-ok
returns-in-Ok-clause-ok g c =
    played_out c.args.events.now c.loop-attempt.place (world_view g.K.Actor.state c.args.world.now) (world_view g.K.Actor.state c.loop-attempt.world)
    (world_view g.K.Actor.state c.play.new.self)
    c.args.told.now.items c.loop-attempt.told.items c.play.new.told.items c.loop-attempt.invariant.played c.in-Ok.ensures.ok
