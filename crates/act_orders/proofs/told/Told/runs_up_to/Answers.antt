use Rattle.act_orders.proofs.Common.{◌≡◌, length, true, false, arith, rules, leb, leb-true, leb-false, sym, subst, ap, IsNonDecreasingBy, IsPartitionPoint}
use Rattle.act_orders.proofs.Common.{IsPartitionPoint-from_clause, IsPartitionedBy-leb, IsNonDecreasingBy-from_default, Run}
use Rattle.act_orders.proofs.told.Told.runs_up_to.Goals as goal

pub returns : goal.returns
returns c =
    let told = c.args.self.now in let a = c.args.actor in let runs = c.as_slice-runs.result.now in let k = c.partition_point.result in
    let nothing : Run = record { actor = 0; call = 0 } in let same : runs ≡ told.runs = c.as_slice-runs.ensures in
    let rises : IsNonDecreasingBy (λ (r : Run). r.actor) runs = subst (IsNonDecreasingBy (λ (r : Run). r.actor)) (sym same)
    (IsNonDecreasingBy-from_default (λ (r : Run). r.actor) told.runs nothing c.requires.run_actors) in
    let point : IsPartitionPoint (λ (r : Run). leb r.actor a ≡ true) (λ (r : Run). leb r.actor a ≡ false) runs k =
    IsPartitionPoint-from_clause (λ (r : Run). leb r.actor a) runs k c.partition_point.ensures.partitioned
    (IsPartitionedBy-leb (λ (r : Run). r.actor) runs a rises) (λ x r q h. search rules) in
    let there : IsPartitionPoint (λ (r : Run). leb r.actor a ≡ true) (λ (r : Run). leb r.actor a ≡ false) told.runs k =
    subst (λ rs. IsPartitionPoint (λ (r : Run). leb r.actor a ≡ true) (λ (r : Run). leb r.actor a ≡ false) rs k) same point in
    record {
      most = let e : length runs ≡ length told.runs = ap length same in omega (arith, c.partition_point.ensures.bound, e);
      before = λ i lt. leb-true _ _ (there.0 i nothing (omega arith) lt);
      later = λ i le lt. leb-false _ _ (there.1 i nothing le lt);
    }
