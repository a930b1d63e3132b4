use Rattle.act_executor.proofs.Common.{◌≡◌, ℕ, ◌<◌, get_or, IsToldAt}
use Rattle.act_executor.proofs.joined.audit_all.Given as goal

abbrev pub invariant-loop-at : goal.invariant-loop-at
invariant-loop-at g l = record {
  same_endpoints : l.endpoints.items ≡ l.fn.endpoints.items;
  same : l.ends.items ≡ l.fn.ends.items;
  told : (k : ℕ) (d : _) → k < l.at → IsToldAt g.A.Compares.Told l.fn.ends.items (get_or l.fn.endpoints.items k d);
}
