-- What the clock of a caller's thread shows.
use Rattle.act_drive.proofs.Common.{◌≡◌, ℕ, zero, suc, ◌<◌, ◌≤◌, max, List, [], ◌∷◌, ◌++◌, length, map, get_or, set, ap, arith, AllZip, flat_map, map-append}
use Rattle.act_drive.proofs.Common.{greatest, clock, IsTimed}

-- ---- clocks

pub greatest-append : (xs ys : List ℕ) → greatest (xs ++ ys) ≡ max (greatest xs) (greatest ys)
greatest-append [] ys = omega arith
greatest-append (x ∷ xs) ys = let rest = greatest-append xs ys in omega (arith, rest)

-- the greatest of more, where each part's is no less
pub greatest_grows : (xs ys xs' ys' : List ℕ) → greatest xs ≤ greatest xs' → greatest ys ≤ greatest ys' → greatest (xs ++ ys) ≤ greatest (xs' ++ ys')
greatest_grows xs ys xs' ys' one other = omega (arith, greatest-append xs ys, greatest-append xs' ys', one, other)

pub greatest_pushed : (xs : List ℕ) (x : ℕ) → (greatest xs ≤ greatest (xs ++ x ∷ [])) × (x ≤ greatest (xs ++ x ∷ []))
greatest_pushed xs x = let all = greatest-append xs (x ∷ []) in (omega (arith, all), omega (arith, all))

-- one of these lists has a greater number
pub greatest_set : {E : Type 0} (part : E → List ℕ) (xs : List E) (at : ℕ) (d e : E) → at < length xs → greatest (part (get_or xs at d)) ≤ greatest (part e) →
    greatest (flat_map part xs) ≤ greatest (flat_map part (set xs at e))
greatest_set part [] at d e below more = absurd (omega arith)
greatest_set part (x ∷ xs) zero d e below more = greatest_grows (part x) (flat_map part xs) (part e) (flat_map part xs) more (omega arith)
greatest_set part (x ∷ xs) (suc at) d e below more =
    greatest_grows (part x) (flat_map part xs) (part x) (flat_map part (set xs at e)) (omega arith) (greatest_set part xs at d e (omega (arith, below)) more)

-- the clock goes on
pub clock_grows : (put put' taken taken' : List ℕ) → greatest put ≤ greatest put' → greatest (map suc taken) ≤ greatest (map suc taken') →
    clock put taken ≤ clock put' taken'
clock_grows put put' taken taken' one other = greatest_grows put (map suc taken) put' (map suc taken') one other

-- after an item is taken it shows more than the item's stamp
pub clock_taken : (put taken : List ℕ) (n : ℕ) → (clock put taken ≤ clock put (taken ++ n ∷ [])) × (n < clock put (taken ++ n ∷ []))
clock_taken put taken n =
    let pushed = greatest_pushed (map suc taken) (suc n) in
    let all : greatest (map suc (taken ++ n ∷ [])) ≡ greatest (map suc taken ++ suc n ∷ []) = ap greatest (map-append suc taken (n ∷ [])) in
    let whole = greatest-append put (map suc (taken ++ n ∷ [])) in
    (clock_grows put put taken (taken ++ n ∷ []) (omega arith) (omega (arith, all, pushed.0)), omega (arith, all, pushed.1, whole))

-- ---- steps in time

pub timed_none : {S : Type 0} (now : ℕ) (trace : List (ℕ × S)) → trace ≡ [] → IsTimed now trace
timed_none now trace none = record { rising = rw none (λ i j d lt below. absurd (omega arith)); past = rw none (λ k d below. absurd (omega arith)) }

-- ---- items and their stamps

pub zip_none : {A B : Type 0} (P : A → B → Type 0) {xs : List A} {ys : List B} → xs ≡ [] → ys ≡ [] → AllZip P xs ys
zip_none P none nor = rw (none, nor) tt
