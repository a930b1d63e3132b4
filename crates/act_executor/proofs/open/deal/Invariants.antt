use Rattle.act_executor.proofs.Common.{◌≡◌, ℕ, ◌++◌, ◌<◌, length, map, get_or, into_iter_items, endpoint_at, items_of_vec, group_of}
use Rattle.act_executor.proofs.open.deal.Given as goal

abbrev pub invariant-loop-pass : goal.invariant-loop-pass
invariant-loop-pass g l = record {
  long : length l.hands.items ≡ length l.numbers;
  each : (i : ℕ) (d : _) → i < length l.numbers → items_of_vec (get_or l.hands.items i d) ++ group_of g.P.Numbered.number (get_or l.numbers i 0)
      (map (endpoint_at l.place) (into_iter_items l.pass-iterator)) ≡ items_of_vec (get_or l.fn.hands.items i d) ++ group_of g.P.Numbered.number
      (get_or l.numbers i 0) (map (endpoint_at l.place) l.fn.passes.items);
}
