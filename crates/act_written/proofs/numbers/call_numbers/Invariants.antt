use Rattle.act_written.proofs.Common.{◌≡◌, ◌<◌, ◌≤◌, ◌-◌, ℕ, length, slice_index_or, call_number}
use Rattle.act_written.proofs.numbers.call_numbers.Given as goal

-- the numbers so far, and the last one
abbrev pub invariant-loop-place : goal.invariant-loop-place
invariant-loop-place l = record {
  count : length l.numbers.items ≡ l.place;
  value : (n : ℕ) → n < l.place → slice_index_or l.numbers.items n 0 ≡ call_number l.told n;
  last : l.number ≡ call_number l.told (l.place - 1);
  few : l.number ≤ l.place - 1;
}
