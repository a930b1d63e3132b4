use Rattle.act_orders.proofs.Common.{◌<◌, Standing, GoesOn, mark, left, graph_of, DONE}
use Rattle.act_orders.proofs.search.Search.visit.Given as goal

abbrev pub invariant-loop-top : goal.invariant-loop-top
invariant-loop-top l = record {
  standing : Standing (graph_of l.told l.places) DONE l.self.marks.items l.self.path.items l.self.order.items;
  goes_on : GoesOn (graph_of l.told l.places) l.fn.self.marks.items l.self.marks.items l.fn.self.order.items l.self.order.items;
  begun : 0 < mark (graph_of l.told l.places) l.self.marks.items l.fn.root;
}

abbrev pub decreases-loop-top : goal.decreases-loop-top
decreases-loop-top l = left DONE l.self.marks.items
