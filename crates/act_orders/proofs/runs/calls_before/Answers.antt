use Rattle.act_orders.proofs.Common.{◌≡◌, [], ◌∷◌, ◌+◌, ◌<◌, ap, sym, ◌∙◌, subst, arith, Some, length, set, length-set, length-append, Call, call_of, place_of}
use Rattle.act_orders.proofs.Common.{IsLast}
use Rattle.act_orders.proofs.Running.{before_more, last_more}
use Rattle.act_orders.proofs.runs.calls_before.Goals as goal

pub loop-place-preserved : goal.loop-place-preserved
loop-place-preserved c =
    let told = c.args.told.now in let n = c.loop-place.place in let last = c.loop-place.last.items in
    let inv = c.loop-place.invariant in
    let actor : c.call.result.now.actor ≡ (call_of told n).actor = ap (λ (x : Call). x.actor) c.call.ensures in
    let within : n < length told.calls = omega arith in
    let room : (call_of told n).actor < length last = let h = c.requires.actors n within in omega (arith, h, inv.actors) in
    record {
      count = ap length c.in_ok-push.ensures.items ∙ length-append c.loop-place.before.items (c.call_before.result ∷ []) ∙ ap (λ k. k + 1) inv.count;
      actors = length-set last c.call.result.now.actor (Some n) ∙ inv.actors;
      before = before_more told n c.loop-place.before.items c.call_before.result c.in_ok-push.ensures.items inv.count inv.before c.call_before.ensures;
      last = λ a lt. subst (λ k. IsLast told (n + 1) a (place_of (set last k (Some n)) a)) (sym actor)
          (last_more told n a last room inv.last (let e = length-set last c.call.result.now.actor (Some n) in omega (arith, lt, e)));
    }
