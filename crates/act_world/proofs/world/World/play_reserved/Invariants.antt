use Rattle.act_world.proofs.Common.{◌≡◌, ◌+◌, ◌-◌, ◌≤◌, length, take, vec_len, vec_capacity, world_view, HasRoom, IsGrownBy, HasPlayed}
use Rattle.act_world.proofs.world.World.play_reserved.Given as goal

-- the world stands after the events so far, and there is room for the rest and for what is told of them
abbrev pub invariant-loop-i : goal.invariant-loop-i
invariant-loop-i g l = record {
  played : HasPlayed (take l.i l.events) (world_view g.K.Actor.state l.fn.self) (world_view g.K.Actor.state l.self) l.fn.told.items l.told.items;
  room : HasRoom (length l.events - l.i) l.self.network;
  grown : IsGrownBy l.i l.fn.self.network l.self.network;
  first : l.i ≡ 0 → (l.self ≡ l.fn.self) × (l.told.items ≡ l.fn.told.items);
  reserved : vec_len l.told + (length l.events - l.i) ≤ vec_capacity l.told;
  capacity : vec_capacity l.fn.told ≤ vec_capacity l.told;
}
