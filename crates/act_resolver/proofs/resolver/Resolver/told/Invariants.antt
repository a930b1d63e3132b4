use Rattle.act_resolver.proofs.Common.{◌≡◌, length, vec_capacity, vec_len, IsTelling, calls_of, waiters_of}
use Rattle.act_resolver.proofs.resolver.Resolver.told.Given as goal

-- the calls that wait are yet to be counted down, and the room stays
abbrev pub invariant-loop-waiter : goal.invariant-loop-waiter
invariant-loop-waiter l = record {
  telling : IsTelling l.k l.self-inside.calls.items l.self-inside.waiters.lists l.self-inside.ready;
  calls : calls_of l.self-inside.calls.items ≡ calls_of l.initial.self-inside.calls.items;
  calls_len : vec_len l.self-inside.calls ≡ vec_len l.initial.self-inside.calls;
  calls_room : vec_capacity l.self-inside.calls ≡ vec_capacity l.initial.self-inside.calls;
  future_room : l.self-inside.waiters.future_room ≡ l.initial.self-inside.waiters.future_room;
  place_room : l.self-inside.waiters.place_room ≡ l.initial.self-inside.waiters.place_room;
  ready_room : length l.self-inside.ready ≡ length l.initial.self-inside.ready;
}

abbrev pub decreases-loop-waiter : goal.decreases-loop-waiter
decreases-loop-waiter l = length (waiters_of l.self-inside.waiters.lists l.k)
