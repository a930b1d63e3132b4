use Rattle.act_plan_plays.proofs.Common.{◌∙◌, ◌&&◌, not, sym, is_known_dead, world_view, shows_dead}
use Rattle.act_plan_plays.proofs.Loops.{none_more, none_whole}
use Rattle.act_plan_plays.proofs.moves.first_untold.Goals as goal

pub loop-a-preserved : goal.loop-a-preserved
loop-a-preserved g c = none_more (λ a. shows_dead (world_view g.K.Actor.state c.args.world.now) a && not (is_known_dead c.args.owner.now a))
    c.args.actors.now c.loop-a-test.true c.a-item.is (sym c.is_untold.ensures ∙ c.if-is_untold.false) c.loop-a.invariant

pub returns : goal.returns
returns g c = none_whole (λ a. shows_dead (world_view g.K.Actor.state c.args.world.now) a && not (is_known_dead c.args.owner.now a)) c.args.actors.now
    c.loop-a-test.false c.loop-a.invariant
