use Rattle.act_orders.proofs.Common.{◌≡◌, ◌<◌, length, ℕ, IsBefore, IsLast, place_of}
use Rattle.act_orders.proofs.runs.calls_before.Given as goal

abbrev pub invariant-loop-place : goal.invariant-loop-place
invariant-loop-place l = record {
  count : length l.before.items ≡ l.place;
  actors : length l.last.items ≡ length l.told.actors;
  before : (n : ℕ) → n < l.place → IsBefore l.told n (place_of l.before.items n);
  last : (a : ℕ) → a < length l.last.items → IsLast l.told l.place a (place_of l.last.items a);
}
