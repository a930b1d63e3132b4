use Rattle.std.proofs.Common.{rules, ◌≡◌, ◌+◌, ◌<◌, ◌≤◌, [], ◌∷◌, ◌++◌, length, take, is_some, true, ap, sym, ◌∙◌, subst, arith}
use Rattle.std.specs.Prelude.{All}
use Rattle.std.proofs.lemmas.List.{take_all, take_more}
use Rattle.actors.specs.Callers.{kept_at}
use Rattle.example_bank.proofs.Asking.{Asking, asks_more, asked}
use Rattle.example_bank.proofs.teller.TellerCode.run.Goals as goal

pub loop-request-preserved : goal.loop-request-preserved
loop-request-preserved g c = λ fresh.
    let requests = c.deref-request-items.result.now in
    let i = c.loop-request.request-index in
    let request = c.request-item.result in
    let new = g.S.Session.seen c.submit.new.self in
    let k = c.in_ok-submit.field-0 in
    let there : i < length requests = omega arith in
    let more : take (i + 1) requests ≡ take i requests ++ request ∷ [] =
    take_more requests i request there ∙ ap (λ r. take i requests ++ r ∷ []) (sym c.request-item.is) in
    let pushed : c.push.new.self.items ≡ c.loop-request.futures.items ++ k ∷ [] = search rules in
    let step : Asking (take i requests ++ request ∷ []) new (c.loop-request.futures.items ++ k ∷ []) =
    asks_more request new k
    (c.loop-request.invariant fresh) c.method_of-method.ensures.word c.in_ok-args.ensures c.in_ok-submit.ensures.future c.in_ok-submit.ensures.submits in
    let futures : Asking (take i requests ++ request ∷ []) new c.push.new.self.items =
    subst (λ fs. Asking (take i requests ++ request ∷ []) new fs) (sym pushed) step in
    subst (λ done. Asking done new c.push.new.self.items) (sym more) futures

pub returns : goal.returns
returns g c = λ fresh.
    let requests = c.args.self.now.requests.items in
    let seen = g.S.Session.seen c.loop-request.session in
    let last = g.S.Session.seen c.wait_all.new.self in
    let futures = c.loop-request.futures.items in
    let items = c.deref-request-items.result.now in
    let end : length items ≤ c.loop-request.request-index = omega arith in
    let whole : take c.loop-request.request-index items ≡ requests = take_all c.loop-request.request-index items end ∙ c.deref-request-items.ensures.value in
    let all : All (λ k. is_some (kept_at last.kept k) ≡ true) futures = search rules in
    asked requests seen last futures (subst (λ done. Asking done seen futures) whole (c.loop-request.invariant fresh)) c.wait_all.ensures.hears all
