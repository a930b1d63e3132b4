use Rattle.act_executor.proofs.Common.{◌≡◌, ◌++◌, map, into_iter_items}
use Rattle.act_executor.proofs.open.unzip.Given as goal

abbrev pub invariant-loop-pair : goal.invariant-loop-pair
invariant-loop-pair g l = record {
  firsts : l.firsts.items ++ map (λ (p : _). p.0) (into_iter_items l.pair-iterator) ≡ map (λ (p : _). p.0) l.fn.pairs.items;
  seconds : l.seconds.items ++ map (λ (p : _). p.1) (into_iter_items l.pair-iterator) ≡ map (λ (p : _). p.1) l.fn.pairs.items;
}
