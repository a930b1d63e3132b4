use Rattle.act_walks.proofs.Common.{◌≡◌, world_view, RestsOn, IsToldRetired}
use Rattle.act_walks.proofs.resting.let_go.Given as goal

-- some copies were let go, or none yet
abbrev pub invariant-loop-count : goal.invariant-loop-count
invariant-loop-count g l =
    RestsOn (IsToldRetired l.a) (world_view g.K.Actor.state l.fn.world) (world_view g.K.Actor.state l.world) l.fn.events.items l.events.items
    × (l.count ≡ 0 → (l.world ≡ l.fn.world) × (l.events ≡ l.fn.events))
