use Rattle.act_orders.proofs.Common.{◌≡◌, ◌≤◌, length, take, HasPlaces, TurnTo, IsFault}
use Rattle.std.proofs.Common.{All}
use Rattle.act_orders.proofs.runs.place_runs.Given as goal

abbrev pub invariant-loop-place : goal.invariant-loop-place
invariant-loop-place l = record {
  places : HasPlaces l.told (take l.place l.told.runs) l.places.items;
  faults : All (IsFault l.told) l.faults;
  more : length l.initial.faults ≤ length l.faults;
  turn : length l.faults ≡ 0 → TurnTo l.told l.place;
}
