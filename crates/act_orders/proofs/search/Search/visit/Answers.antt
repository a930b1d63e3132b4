use Rattle.act_orders.proofs.Common.{◌<◌, [], ◌∷◌, ◌++◌, arith, sym, subst, set, Standing, GoesOn, mark, graph_of, number_of, DONE}
use Rattle.act_orders.proofs.Causing.{happened_within, numbers_apart}
use Rattle.act_orders.proofs.Steps.{enter_root}
use Rattle.act_orders.proofs.search.Search.visit.Goals as goal

pub enter-requires-clause-few : goal.enter-requires-clause-few
enter-requires-clause-few c = let w = happened_within c.args.root c.requires.whole c.requires.happened in omega (arith, w, c.requires.whole.few)

pub loop-top-init : goal.loop-top-init
loop-top-init c =
    let g = graph_of c.args.told.now c.args.places.now in
    let marks = c.args.self.now.marks.items in let path = c.args.self.now.path.items in let order = c.args.self.now.order.items in
    let u = c.args.root in let done = c.in_ok-enter.ensures in
    let e = enter_root g numbers_apart DONE marks path order u c.requires.rests (omega arith) c.requires.happened c.requires.fresh in
    record {
      standing = subst (λ ms. Standing g DONE ms c.enter.new.self.path.items c.enter.new.self.order.items) (sym done.marks)
          (subst (λ ps. Standing g DONE (set marks (number_of u) 1) ps c.enter.new.self.order.items) (sym done.path)
          (subst (λ os. Standing g DONE (set marks (number_of u) 1) (path ++ u ∷ []) os) (sym done.order) e.standing));
      goes_on = subst (λ ms. GoesOn g marks ms order c.enter.new.self.order.items) (sym done.marks)
          (subst (λ os. GoesOn g marks (set marks (number_of u) 1) order os) (sym done.order) e.goes_on);
      begun = subst (λ ms. 0 < mark g ms u) (sym done.marks) e.begun;
    }
