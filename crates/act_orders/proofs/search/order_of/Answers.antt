use Rattle.act_orders.proofs.Common.{◌≡◌, ◌<◌, ◌*◌, ℕ, [], length, arith, sym, subst, replicate, get_or-replicate, length-replicate, Contains, Happening}
use Rattle.act_orders.proofs.Common.{Submitted, Ran, Answered, Happened, Standing, graph_of, number_of, DONE}
use Rattle.act_orders.proofs.Causing.{happened_within, number_below}
use Rattle.act_orders.proofs.Judging.{covered_more, covered}
use Rattle.act_orders.proofs.Standing.{unbegun}
use Rattle.act_orders.proofs.Steps.{orders}
use Rattle.act_orders.proofs.search.order_of.Goals as goal

pub loop-call-init : goal.loop-call-init
loop-call-init c =
    let told = c.args.told.now in let g = graph_of told c.args.places.now in
    let n : ℕ = 3 * c.len-count.result in let new = c.in_ok-search.ensures in
    let few : (v : Happening) → Happened told v → number_of v < n = λ v is.
    let b = number_below told v (happened_within v c.requires.whole is) in omega (arith, b, c.len-count.ensures) in
    let start : Standing g DONE (replicate n 0) [] [] = unbegun g DONE (replicate n 0) (omega arith)
    (λ v is. let l : length (replicate n 0) ≡ n = length-replicate {A = ℕ} n 0 in let f = few v is in omega (arith, l, f))
    (λ v is. get_or-replicate n (number_of v) 0 0 (few v is)) in
    let s : Standing g DONE c.in_ok-search.search.marks.items c.in_ok-search.search.path.items c.in_ok-search.search.order.items =
    subst (λ ms. Standing g DONE ms c.in_ok-search.search.path.items c.in_ok-search.search.order.items) (sym new.marks)
    (subst (λ ps. Standing g DONE (replicate n 0) ps c.in_ok-search.search.order.items) (sym new.path)
    (subst (λ os. Standing g DONE (replicate n 0) [] os) (sym new.order) start)) in
    record {
      rests = (s, new.path);
      submitted = λ k lt is. absurd (omega (arith, lt));
      ran = λ k lt is. absurd (omega (arith, lt));
      answered = λ k lt is. absurd (omega (arith, lt));
    }

pub loop-call-preserved : goal.loop-call-preserved
loop-call-preserved c =
    let told = c.args.told.now in let n = c.loop-call.call in let inv = c.loop-call.invariant in
    let order = c.loop-call.search.order.items in let longer = c.cover-in-loop-call-2.new.self.order.items in
    let a = c.in_ok-cover.ensures in let b = c.in_ok-cover-2.ensures in let d = c.in_ok-cover-3.ensures in
    let grows : (v : Happening) → Contains order v → Contains longer v =
    λ v has. d.goes_on.grows v (b.goes_on.grows v (a.goes_on.grows v has)) in
    record {
      rests = d.rests;
      submitted = covered_more told Submitted n order longer grows inv.submitted
          (λ is. d.goes_on.grows (Submitted n) (b.goes_on.grows (Submitted n) (a.there is)));
      ran = covered_more told Ran n order longer grows inv.ran (λ is. d.goes_on.grows (Ran n) (b.there is));
      answered = covered_more told Answered n order longer grows inv.answered d.there;
    }

pub returns-clause-order : goal.returns-clause-order
returns-clause-order c =
    let told = c.args.told.now in let inv = c.loop-call.invariant in let s = c.loop-call.search in
    orders (graph_of told c.args.places.now) DONE s.marks.items s.path.items s.order.items inv.rests
    (covered s.order.items c.loop-call.call c.requires.whole (omega arith) inv.submitted inv.ran inv.answered)
