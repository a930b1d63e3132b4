use Rattle.act_executor.proofs.Common.{◌≡◌, ◌≢◌, ◌++◌, length, map, zip, All, AllPairs, into_iter_items, into_iter_len, Each, MayDrive, CanDrive, driving_start}
use Rattle.act_executor.proofs.Common.{setup_start}
use Rattle.act_executor.proofs.work.drivings.Given as goal

abbrev pub invariant-loop-setup : goal.invariant-loop-setup
invariant-loop-setup g l = record {
  first_long : into_iter_len l.setup-iterator.a ≡ length (into_iter_items l.setup-iterator.a);
  second_long : into_iter_len l.setup-iterator.b ≡ length (into_iter_items l.setup-iterator.b);
  drive : Each (MayDrive l.lines) (into_iter_items l.setup-iterator.a) (into_iter_items l.setup-iterator.b);
  differ : AllPairs (λ one other. one.caller ≢ other.caller) (into_iter_items l.setup-iterator.a);
  left : All (λ setup. g.D.Conducts.of l.conducts setup.caller ≡ g.D.Conducts.of l.fn.conducts setup.caller) (into_iter_items l.setup-iterator.a);
  ready : All CanDrive l.drivings.items;
  starts : map driving_start l.drivings.items ++ map (setup_start l.lines (g.D.Conducts.of l.fn.conducts)) (zip (into_iter_items l.setup-iterator.a)
      (into_iter_items l.setup-iterator.b)) ≡ map (setup_start l.lines (g.D.Conducts.of l.fn.conducts)) (zip l.fn.setups.items l.fn.callers.items);
}
