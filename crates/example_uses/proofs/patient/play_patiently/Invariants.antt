use Rattle.example_uses.proofs.Common.{◌≤◌, length, take, world_view, HasPlayed}
use Rattle.example_uses.proofs.patient.play_patiently.Given as goal

-- the events before the place were played
abbrev pub invariant-loop-attempt : goal.invariant-loop-attempt
invariant-loop-attempt g l = record {
  within : l.place ≤ length l.events;
  played : HasPlayed (take l.place l.events) (world_view g.K.Actor.state l.fn.world) (world_view g.K.Actor.state l.world) l.fn.told.items l.told.items;
}
