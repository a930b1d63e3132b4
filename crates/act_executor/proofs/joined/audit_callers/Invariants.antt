use Rattle.act_executor.proofs.Common.{◌≡◌, ◌++◌, map, All, into_iter_items, Driven, HasEndpoints, CallerTold}
use Rattle.act_executor.proofs.joined.audit_callers.Given as goal

abbrev pub invariant-loop-caller : goal.invariant-loop-caller
invariant-loop-caller g l = record {
  same : l.actors.items ≡ l.fn.actors.items;
  sit : All (HasEndpoints l.lines) (into_iter_items l.caller-iterator);
  told : All (CallerTold l.fn.actors.items) (into_iter_items l.caller-iterator) → All (CallerTold l.fn.actors.items) l.fn.callers.items;
  owners : l.owners.items ++ map (λ (caller : Driven). caller.owner) (into_iter_items l.caller-iterator) ≡ map
      (λ (caller : Driven). caller.owner) l.fn.callers.items;
}
