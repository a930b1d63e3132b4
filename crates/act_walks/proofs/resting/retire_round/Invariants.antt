use Rattle.act_walks.proofs.Common.{◌≡◌, false, world_view, Fits, RestsOn}
use Rattle.act_walks.proofs.Rested.{SettledBelow}
use Rattle.act_walks.proofs.resting.retire_round.Given as goal

-- the actors so far moved, or none of them could
abbrev pub invariant-loop-number : goal.invariant-loop-number
invariant-loop-number g l =
    RestsOn (Fits l.end) (world_view g.K.Actor.state l.fn.world) (world_view g.K.Actor.state l.world) l.fn.events.items l.events.items
    × (l.moved ≡ false → (l.world ≡ l.fn.world) × (l.events ≡ l.fn.events)
    × SettledBelow l.number l.end.actors.items (world_view g.K.Actor.state l.world) l.events.items)
