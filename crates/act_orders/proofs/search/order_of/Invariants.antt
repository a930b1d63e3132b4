use Rattle.act_orders.proofs.Common.{ℕ, ◌<◌, Contains, Submitted, Ran, Answered, Happened, AtRest, graph_of, DONE}
use Rattle.act_orders.proofs.search.order_of.Given as goal

abbrev pub invariant-loop-call : goal.invariant-loop-call
invariant-loop-call l = record {
  rests : AtRest (graph_of l.told l.places) DONE l.search.marks.items l.search.path.items l.search.order.items;
  submitted : (n : ℕ) → n < l.call → Happened l.told (Submitted n) → Contains l.search.order.items (Submitted n);
  ran : (n : ℕ) → n < l.call → Happened l.told (Ran n) → Contains l.search.order.items (Ran n);
  answered : (n : ℕ) → n < l.call → Happened l.told (Answered n) → Contains l.search.order.items (Answered n);
}
