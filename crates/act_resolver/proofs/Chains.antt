-- The chains through the places that wait, after one more place and along one link.
use Rattle.act_resolver.proofs.Common.{◌≡◌, ℕ, zero, suc, ◌+◌, ◌<◌, Option, Some, None, List, [], ◌∷◌, ◌++◌, length, map, get_or, drop, refl, sym, ◌∙◌, ap}
use Rattle.act_resolver.proofs.Common.{arith, IfSome, All, slice_set, slice_get, get_or_append_left, get_or_at, map-set, get_or-map, length_push, Place}
use Rattle.act_resolver.proofs.Common.{chain_from, chains_after, chains_of, AreLinked, AreWaiters, waiters_of}

length-chains_after : (chains : List (List ℕ)) (places : List Place) → length (chains_after chains places) ≡ length chains + length places
length-chains_after chains [] = omega arith
length-chains_after chains (place ∷ places) =
    let here = place.call ∷ chain_from chains place.next in omega (arith, length-chains_after (chains ++ here ∷ []) places, length_push chains here)

-- one more place at the end
chains_after-push : (chains : List (List ℕ)) (places : List Place) (place : Place) →
    chains_after chains (places ++ place ∷ []) ≡ chains_after chains places ++ (place.call ∷ chain_from (chains_after chains places) place.next) ∷ []
chains_after-push chains [] place = refl
chains_after-push chains (first ∷ places) place = chains_after-push (chains ++ (first.call ∷ chain_from chains first.next) ∷ []) places place

-- later places change no chain of an earlier one
chain_stays : (chains : List (List ℕ)) (places : List Place) (k : ℕ) → k < length chains → get_or (chains_after chains places) k [] ≡ get_or chains k []
chain_stays chains [] k lt = refl
chain_stays chains (place ∷ places) k lt =
    let here = place.call ∷ chain_from chains place.next in
    chain_stays (chains ++ here ∷ []) places k (omega (arith, length_push chains here)) ∙ get_or_append_left chains (here ∷ []) [] k lt

chain_from_stays : (chains : List (List ℕ)) (places : List Place) (next : Option ℕ) → IfSome next (λ k. k < length chains) →
    chain_from (chains_after chains places) next ≡ chain_from chains next
chain_from_stays chains places None within = refl
chain_from_stays chains places (Some k) within = chain_stays chains places k within

-- the chain from a place is its call, and then the chain from the next place
chain_at : (chains : List (List ℕ)) (places : List Place) (i : ℕ) (d : Place) → i < length places → AreLinked (length chains) places →
    get_or (chains_after chains places) (length chains + i) [] ≡ (get_or places i d).call ∷ chain_from (chains_after chains places) (get_or places i d).next
chain_at chains [] i d lt linked = absurd (omega arith)
chain_at chains (place ∷ places) zero d lt linked =
    let here = place.call ∷ chain_from chains place.next in let index : length chains + 0 ≡ length chains = omega arith in
    let before : IfSome place.next (λ next. next < length chains) = rw index at (linked 0 d (omega arith)) in
    rw index
    (chain_stays (chains ++ here ∷ []) places (length chains) (omega (arith, length_push chains here)) ∙ get_or_at chains here [] [] (length chains) refl ∙
    ap (λ rest. place.call ∷ rest) (sym (chain_from_stays chains (place ∷ places) place.next before)))
chain_at chains (place ∷ places) (suc i) d lt linked =
    let here = place.call ∷ chain_from chains place.next in let more = length_push chains here in
    let index : length chains + suc i ≡ length (chains ++ here ∷ []) + i = omega (arith, more) in
    rw index
    (chain_at (chains ++ here ∷ []) places i d (omega arith) (λ j e within. later j e within))
  where
    later : (j : ℕ) (e : Place) → j < length places →
        IfSome (get_or places j e).next (λ next. next < length (chains ++ (place.call ∷ chain_from chains place.next) ∷ []) + j)
    later j e within =
        let bound : length (chains ++ (place.call ∷ chain_from chains place.next) ∷ []) + j ≡ length chains + suc j =
        omega (arith, length_push chains (place.call ∷ chain_from chains place.next)) in
        rw bound (linked (suc j) e (omega arith))

-- a chain that begins earlier is the same among more chains
chain_from_push : (chains : List (List ℕ)) (more : List ℕ) (first : Option ℕ) → IfSome first (λ place. place < length chains) →
    chain_from (chains ++ more ∷ []) first ≡ chain_from chains first
chain_from_push chains more None within = refl
chain_from_push chains more (Some place) within = get_or_append_left chains (more ∷ []) [] place within

same_chains : (chains : List (List ℕ)) (more : List ℕ) {n : ℕ} (firsts : List (Option ℕ)) → n ≡ length chains →
    All (λ first. IfSome first (λ place. place < n)) firsts → map (chain_from (chains ++ more ∷ [])) firsts ≡ map (chain_from chains) firsts
same_chains chains more [] size within = refl
same_chains chains more {n} (first ∷ firsts) size within =
    let here : IfSome first (λ place. place < n) = within 0 first (omega arith) in
    rw (chain_from_push chains more first (rw (sym size) here), same_chains chains more firsts size (λ k d lt. within (suc k) d (omega arith))) refl

-- a place in front of a future's chain
pub added : (firsts : List (Option ℕ)) (places : List Place) (place : Place) (k : ℕ) → AreWaiters firsts places → k < length firsts →
    place.next ≡ get_or firsts k None → chains_of (slice_set firsts k (Some (length places))) (places ++ place ∷ []) ≡ slice_set (chains_of firsts places) k
    (place.call ∷ waiters_of (chains_of firsts places) k)
added firsts places place k fine lt next =
    let chains = chains_after [] places in let here = place.call ∷ chain_from chains place.next in
    let size : length chains ≡ length places = length-chains_after [] places ∙ omega arith in
    let begins : waiters_of (chains_of firsts places) k ≡ chain_from chains place.next =
    get_or-map (chain_from chains) firsts k None [] lt ∙ ap (chain_from chains) (sym next) in
    rw (
      chains_after-push [] places place,
      map-set (chain_from (chains ++ here ∷ [])) firsts k (Some (length places)),
      same_chains chains here firsts (sym size) fine.0,
      get_or_at chains here [] [] (length places) size,
      begins,
    ) refl

-- the chain of a future that has one
chain_first : (firsts : List (Option ℕ)) (places : List Place) (k first : ℕ) (d : Place) → AreWaiters firsts places → k < length firsts → get_or firsts k None ≡
    Some first → waiters_of (chains_of firsts places) k ≡ (get_or places first d).call ∷ chain_from (chains_after [] places) (get_or places first d).next
chain_first firsts places k first d fine lt is =
    let within : first < length places = rw is at (fine.0 k None lt) in let index : 0 + first ≡ first = omega arith in
    get_or-map (chain_from (chains_after [] places)) firsts k None [] lt ∙ ap (chain_from (chains_after [] places)) is ∙
    rw index at (chain_at [] places first d within fine.1)

pub popped_call : (firsts : List (Option ℕ)) (places : List Place) (k first : ℕ) (d : Place) → AreWaiters firsts places → k < length firsts →
    get_or firsts k None ≡ Some first → Some (get_or places first d).call ≡ slice_get (waiters_of (chains_of firsts places) k) 0
popped_call firsts places k first d fine lt is = ap (λ calls. slice_get calls 0) (sym (chain_first firsts places k first d fine lt is))

pub popped_lists : (firsts : List (Option ℕ)) (places : List Place) (k first : ℕ) (d : Place) → AreWaiters firsts places → k < length firsts →
    get_or firsts k None ≡ Some first →
    chains_of (slice_set firsts k (get_or places first d).next) places ≡ slice_set (chains_of firsts places) k (drop 1 (waiters_of (chains_of firsts places) k))
popped_lists firsts places k first d fine lt is =
    map-set (chain_from (chains_after [] places)) firsts k (get_or places first d).next
    ∙ ap (λ rest. slice_set (chains_of firsts places) k rest) (sym (ap (λ calls. drop 1 calls) (chain_first firsts places k first d fine lt is)))
