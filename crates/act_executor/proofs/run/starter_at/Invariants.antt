use Rattle.act_executor.proofs.Common.{◌≡◌, ◌++◌, length, map, range_with_len, into_iter_items, into_iter_len}
use Rattle.act_executor.proofs.run.starter_at.Given as goal

abbrev pub invariant-loop-pass : goal.invariant-loop-pass
invariant-loop-pass l = record {
  places : map (λ endpoint. endpoint.place) l.endpoints.items ≡ range_with_len 0 (length l.endpoints.items);
  passes : map (λ endpoint. endpoint.pass) l.endpoints.items ++ into_iter_items l.pass-iterator ≡ l.fn.passes.items;
  long : into_iter_len l.pass-iterator ≡ length (into_iter_items l.pass-iterator);
}
