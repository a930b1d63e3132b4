use Rattle.act_plan_plays.proofs.Common.{◌≡◌, None, take, not, ◌&&◌, find, is_known_dead, world_view, shows_dead}
use Rattle.act_plan_plays.proofs.moves.first_untold.Given as goal

-- none of the actors so far is dead and untold
abbrev pub invariant-loop-a : goal.invariant-loop-a
invariant-loop-a g l = find (λ a. shows_dead (world_view g.K.Actor.state l.world) a && not (is_known_dead l.owner a)) (take l.a-index l.actors) ≡ None
