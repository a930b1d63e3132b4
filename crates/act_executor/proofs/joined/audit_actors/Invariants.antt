use Rattle.act_executor.proofs.Common.{◌≡◌, ℕ, ◌<◌, map, get_or, All, Finished, NoticeTold, left_of}
use Rattle.act_executor.proofs.joined.audit_actors.Given as goal

abbrev pub invariant-loop-at : goal.invariant-loop-at
invariant-loop-at g l = record {
  same_actors : map left_of l.actors.items ≡ map left_of l.fn.actors.items;
  same : l.callers.items ≡ l.fn.callers.items;
  told : (k : ℕ) (d : Finished g.row.K.Denot g.row.L.Denot) → k < l.at →
      All (NoticeTold l.fn.callers.items) (get_or l.fn.actors.items k d).passes.notices.items;
}
