use Rattle.act_world.proofs.Common.{rules, ◌+◌, ◌-◌, length, ap, subst, arith, take_all, world_view, FollowsRules, HasRoom, IsGrownBy, HasPlayed}
use Rattle.act_world.proofs.Playing.{Played_next}
use Rattle.act_world.proofs.Shown.{played_shows, stopped_shows}
use Rattle.act_world.proofs.world.World.play_reserved.Goals as goal

pub loop-i-preserved : goal.loop-i-preserved
loop-i-preserved g c = record {
  played = Played_next c.args.events.now c.loop-i.i c.index-events-i.result (world_view g.K.Actor.state c.args.self.now)
      (world_view g.K.Actor.state c.loop-i.self) (world_view g.K.Actor.state c.step.new.self) c.args.told.now.items c.loop-i.told.items c.in-Ok.outcome
      c.loop-i-test.true c.loop-i.invariant.played (subst (λ event. FollowsRules event (world_view g.K.Actor.state c.loop-i.self)
      (world_view g.K.Actor.state c.step.new.self) c.in-Ok.outcome) c.index-events-i.is c.in-Ok.ensures.ok) c.push_reserved.ensures.items;
  room = room;
  grown = grown;
  first = λ none. absurd (omega arith);
  reserved = search rules;
  capacity = search rules;
}
  where
    grown : IsGrownBy (c.loop-i.i + 1) c.args.self.now.network c.step.new.self.network
    grown = let before = c.loop-i.invariant.grown in let more = c.step.ensures.grown in omega arith

    room : HasRoom (length c.args.events.now - (c.loop-i.i + 1)) c.step.new.self.network
    room = let before = c.loop-i.invariant.room in let grown = c.step.ensures.grown in let within = c.loop-i-test.true in omega arith

pub returns-clause-ok : goal.returns-clause-ok
returns-clause-ok g c =
    subst (λ events. HasPlayed events (world_view g.K.Actor.state c.args.self.now) (world_view g.K.Actor.state c.loop-i.self) c.args.told.now.items
    c.loop-i.told.items) (take_all c.loop-i.i c.args.events.now c.loop-i-test.false) c.loop-i.invariant.played

pub returns-clause-shown : goal.returns-clause-shown
returns-clause-shown g c = λ casts before reached. played_shows c.args.events.now c.loop-i.i (world_view g.K.Actor.state c.args.self.now)
    (world_view g.K.Actor.state c.loop-i.self) c.args.told.now.items c.loop-i.told.items c.loop-i.invariant.played casts before reached

pub returns-in_default-clause-shown : goal.returns-in_default-clause-shown
returns-in_default-clause-shown g c = λ casts before reached. stopped_shows c.args.events.now c.loop-i.i (world_view g.K.Actor.state c.args.self.now)
    c.args.told.now.items c.loop-i.told.items c.loop-i.invariant.played (ap (world_view g.K.Actor.state) c.in_default.ensures.err) casts before reached
