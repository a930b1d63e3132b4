use Rattle.act_resolver.proofs.Common.{◌≡◌, ℕ, ◌+◌, ◌≤◌, ◌==◌, ◌&&◌, not, cond, length, take, calls_of, is_answered, count_number, missing_of, waiters_of}
use Rattle.act_resolver.proofs.resolver.add_places.Given as goal

-- the call waits at the places so far
abbrev pub invariant-loop-future : goal.invariant-loop-future
invariant-loop-future l = record {
  count : l.missing ≡ missing_of (calls_of l.calls) (take l.future-index l.futures);
  few : l.missing ≤ l.future-index;
  lists : (future call : ℕ) → count_number call (waiters_of l.waiters.lists future) ≡ count_number call (waiters_of l.initial.waiters.lists future) + cond
      ((call == l.k) && not (is_answered (calls_of l.calls) future)) (count_number future (take l.future-index l.futures)) 0;
  size : length l.waiters.lists ≡ length l.initial.waiters.lists;
  future_room : l.waiters.future_room ≡ l.initial.waiters.future_room;
  place_room : l.initial.waiters.place_room ≤ l.waiters.place_room + l.future-index;
}
