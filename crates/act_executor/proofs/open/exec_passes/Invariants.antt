use Rattle.act_executor.proofs.Common.{◌≡◌, ◌++◌, length, map, range_with_len, into_iter_items, into_iter_len, items_of_vec}
use Rattle.act_executor.proofs.open.exec_passes.Given as goal

abbrev pub invariant-loop-letters : goal.invariant-loop-letters
invariant-loop-letters l = record {
  places : map (λ exec. exec.place) l.execs.items ≡ range_with_len 0 (length l.execs.items);
  letters : map (λ exec. exec.pass.letters) l.execs.items ++ into_iter_items l.letters-iterator.a.a ≡ l.fn.letters.items;
  kills : map (λ exec. exec.pass.kills) l.execs.items ++ into_iter_items l.letters-iterator.a.b ≡ l.fn.kills.items;
  notices : map (λ exec. exec.pass.notices.items) l.execs.items ++ map items_of_vec
      (into_iter_items l.letters-iterator.b) ≡ map items_of_vec l.fn.notices.items;
  letters_long : into_iter_len l.letters-iterator.a.a ≡ length (into_iter_items l.letters-iterator.a.a);
  kills_long : into_iter_len l.letters-iterator.a.b ≡ length (into_iter_items l.letters-iterator.a.b);
  notices_long : into_iter_len l.letters-iterator.b ≡ length (into_iter_items l.letters-iterator.b);
  first : length (into_iter_items l.letters-iterator.a.b) ≡ length (into_iter_items l.letters-iterator.a.a);
  last : length (into_iter_items l.letters-iterator.b) ≡ length (into_iter_items l.letters-iterator.a.a);
}
