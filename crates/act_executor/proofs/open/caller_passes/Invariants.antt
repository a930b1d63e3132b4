use Rattle.act_executor.proofs.Common.{◌≡◌, ◌++◌, length, map, range_with_len, into_iter_items, into_iter_len, items_of_vec}
use Rattle.act_executor.proofs.open.caller_passes.Given as goal

abbrev pub invariant-loop-letters : goal.invariant-loop-letters
invariant-loop-letters l = record {
  places : map (λ caller. caller.place) l.callers.items ≡ range_with_len 0 (length l.callers.items);
  letters : map (λ caller. caller.pass.letters.items) l.callers.items ++ map items_of_vec
      (into_iter_items l.letters-iterator.a.a) ≡ map items_of_vec l.fn.letters.items;
  kills : map (λ caller. caller.pass.kills.items) l.callers.items ++ map items_of_vec
      (into_iter_items l.letters-iterator.a.b) ≡ map items_of_vec l.fn.kills.items;
  collects : map (λ caller. caller.pass.collects) l.callers.items ++ into_iter_items l.letters-iterator.b ≡ l.fn.collects.items;
  letters_long : into_iter_len l.letters-iterator.a.a ≡ length (into_iter_items l.letters-iterator.a.a);
  kills_long : into_iter_len l.letters-iterator.a.b ≡ length (into_iter_items l.letters-iterator.a.b);
  collects_long : into_iter_len l.letters-iterator.b ≡ length (into_iter_items l.letters-iterator.b);
  first : length (into_iter_items l.letters-iterator.a.b) ≡ length (into_iter_items l.letters-iterator.a.a);
  last : length (into_iter_items l.letters-iterator.b) ≡ length (into_iter_items l.letters-iterator.a.a);
}
