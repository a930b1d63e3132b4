use Rattle.act_walks.proofs.Common.{◌≡◌, false, take, world_view, RestsOn, IsToldRetired, HoldNone}
use Rattle.act_walks.proofs.resting.let_all_go.Given as goal

-- the callers so far let all go, or had none
abbrev pub invariant-loop-c : goal.invariant-loop-c
invariant-loop-c g l =
    RestsOn (IsToldRetired l.a) (world_view g.K.Actor.state l.fn.world) (world_view g.K.Actor.state l.world) l.fn.events.items l.events.items
    × (l.moved ≡ false → (l.world ≡ l.fn.world) × (l.events ≡ l.fn.events)
    × HoldNone (take l.c-index l.callers) l.a (world_view g.K.Actor.state l.world) l.events.items)
