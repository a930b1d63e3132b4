use Rattle.act_resolver.proofs.Common.{◌≡◌, ◌<◌, ◌++◌, ◌∷◌, [], length, get_or, Some, None, ◌∙◌, ap, arith, slice_set, length-map, get_or_read, Place}
use Rattle.act_resolver.proofs.Common.{chains_of, chain_from, chains_after, waiters_of}
use Rattle.act_resolver.proofs.Chains.{added}
use Rattle.act_resolver.proofs.resolver.Waiters.add.Goals as goal

pub returns-clause-lists : goal.returns-clause-lists
returns-clause-lists c =
    let firsts = c.self.inside.firsts.items in let places = c.self.inside.places.items in
    let place : Place = record { call = c.args.call; next = c.index-next.result.now } in
    let k = c.number-future.result in
    let lists : chains_of firsts places ≡ c.args.self.now.lists = ap (λ v. v.lists) c.self.view_is in
    let count : length (chains_of firsts places) ≡ length firsts = length-map firsts (chain_from (chains_after [] places)) in
    let within : k < length firsts = omega (arith, count, ap length lists) in
    let size : c.len-place.result ≡ length places = omega arith in
    let next : c.index-next.result.now ≡ get_or firsts k None = get_or_read firsts k c.index-next.result.now within c.index-next.ensures None in
    ap (λ o. chains_of (slice_set firsts k o) c.push_reserved.new.self.items) c.to.ensures
    ∙ ap (λ ps. chains_of (slice_set firsts k (Some c.len-place.result)) ps) c.push_reserved.ensures.items
    ∙ ap (λ n. chains_of (slice_set firsts k (Some n)) (places ++ place ∷ [])) size
    ∙ added firsts places place k c.self.invariant within next
    ∙ ap (λ ls. slice_set ls k (c.args.call ∷ waiters_of ls k)) lists
    ∙ ap (λ i. slice_set c.args.self.now.lists i (c.args.call ∷ waiters_of c.args.self.now.lists i)) c.number-future.ensures
