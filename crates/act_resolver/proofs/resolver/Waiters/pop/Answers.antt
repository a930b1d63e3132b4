use Rattle.act_resolver.proofs.Common.{◌≡◌, ◌<◌, [], length, drop, get_or, Some, None, sym, ◌∙◌, ap, arith, slice_set, slice_get, length-map, get_or_read}
use Rattle.act_resolver.proofs.Common.{Place, chains_of, chain_from, chains_after, waiters_of}
use Rattle.act_resolver.proofs.Chains.{popped_call, popped_lists}
use Rattle.act_resolver.proofs.resolver.Waiters.pop.Goals as goal

pub returns-clause-value : goal.returns-clause-value
returns-clause-value c =
    let firsts = c.self.inside.firsts.items in let places = c.self.inside.places.items in let place = c.index-place.result.now in
    let k = c.number-future.result in let first = c.in_ok-first.first in
    let lists : chains_of firsts places ≡ c.args.self.now.lists = ap (λ v. v.lists) c.self.view_is in
    let count : length (chains_of firsts places) ≡ length firsts = length-map firsts (chain_from (chains_after [] places)) in
    let within : k < length firsts = omega (arith, count, ap length lists) in
    let is : get_or firsts k None ≡ Some first =
    sym (get_or_read firsts k c.index.result.now within c.index.ensures None) ∙ sym c.place.ensures ∙ c.in_ok-first.was in
    ap (λ (p : Place). Some p.call) c.index-place.ensures
    ∙ popped_call firsts places k first place c.self.invariant within is
    ∙ ap (λ ls. slice_get (waiters_of ls k) 0) lists
    ∙ ap (λ i. slice_get (waiters_of c.args.self.now.lists i) 0) c.number-future.ensures

pub returns-clause-lists : goal.returns-clause-lists
returns-clause-lists c =
    let firsts = c.self.inside.firsts.items in let places = c.self.inside.places.items in let place = c.index-place.result.now in
    let k = c.number-future.result in let first = c.in_ok-first.first in
    let lists : chains_of firsts places ≡ c.args.self.now.lists = ap (λ v. v.lists) c.self.view_is in
    let count : length (chains_of firsts places) ≡ length firsts = length-map firsts (chain_from (chains_after [] places)) in
    let within : k < length firsts = omega (arith, count, ap length lists) in
    let is : get_or firsts k None ≡ Some first =
    sym (get_or_read firsts k c.index.result.now within c.index.ensures None) ∙ sym c.place.ensures ∙ c.in_ok-first.was in
    ap (λ (p : Place). chains_of (slice_set firsts k p.next) places) c.index-place.ensures
    ∙ popped_lists firsts places k first place c.self.invariant within is
    ∙ ap (λ ls. slice_set ls k (drop 1 (waiters_of ls k))) lists
    ∙ ap (λ i. slice_set c.args.self.now.lists i (drop 1 (waiters_of c.args.self.now.lists i))) c.number-future.ensures
