use Rattle.act_resolver.proofs.Common.{◌≡◌, ℕ, ◌+◌, ◌<◌, ◌==◌, ◌&&◌, ◌++◌, ◌∷◌, [], ◌∙◌, length, cond, not, sym, ap, arith, calls_of, count_number, is_answered}
use Rattle.act_resolver.proofs.Common.{missing_of, waiters_of}
use Rattle.act_resolver.proofs.Counting.{entered_fine, length-calls}
use Rattle.act_resolver.proofs.resolver.Resolver.enter_reserved.Goals as goal

pub invariant_of-self : goal.invariant_of-self
invariant_of-self c =
    let rows = c.self.inside.calls.items in let calls = calls_of rows in let lists = c.self.inside.waiters.lists in
    let after = c.add_places-missing.new.waiters.lists in let k = c.number-2.result in let futures = c.args.futures.now in
    let same : calls ≡ c.args.self.now.calls = ap (λ v. v.calls) c.self.view_is in
    let next : k ≡ length rows = omega (arith, c.number-2.ensures, c.requires.next, ap length same, length-calls rows) in
    let is : c.add_places-missing.result ≡ missing_of calls futures =
    c.add_places-missing.ensures.count ∙ ap (λ rs. missing_of (calls_of rs) c.args.futures.now) c.deref.ensures.value in
    let waits : (future call : ℕ) → count_number call (waiters_of after future) ≡ count_number call (waiters_of (lists ++ [] ∷ []) future) + cond
    ((call == k) && not (is_answered calls future)) (count_number future futures) 0 =
    λ future call. c.add_places-missing.ensures.lists future call
    ∙ ap (λ ls. count_number call (waiters_of ls future) + cond ((call == c.args.k) && not (is_answered (calls_of c.deref.result.now) future))
    (count_number future c.args.futures.now) 0) c.add_future.ensures.lists
    ∙ ap (λ rs. count_number call (waiters_of (lists ++ [] ∷ []) future) + cond ((call == c.args.k) && not (is_answered (calls_of rs) future))
    (count_number future c.args.futures.now) 0) c.deref.ensures.value
    ∙ ap (λ n. count_number call (waiters_of (lists ++ [] ∷ []) future) + cond ((call == n) && not (is_answered calls future))
    (count_number future c.args.futures.now) 0) (sym c.number-2.ensures) in
    let size : length after ≡ length (lists ++ [] ∷ []) = c.add_places-missing.ensures.length ∙ ap length c.add_future.ensures.lists in
    let room : k < length c.self.inside.ready = omega (arith, next, ap (λ v. v.spare) c.self.view_is, c.requires.room, c.self.inside.calls.ok.0) in
    let fine = entered_fine rows lists after k futures c.self.invariant next room is size waits in
    rw (c.push_reserved.ensures.items, c.of.ensures, c.new.ensures, c.set.ensures) fine
