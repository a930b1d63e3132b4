-- What is found in the steps of a thread, in two parts and without its stamps.
use Rattle.act_causes.proofs.Common.{◌≡◌, ℕ, zero, suc, ◌≤◌, ◌<◌, List, [], ◌∷◌, ◌++◌, Option, Some, None, refl, ap, arith, slice_get, AllByRecursion, map}
use Rattle.act_causes.proofs.Common.{filter_map, option_map, cons_option, steps_in, found_in}

-- no stamp is below m
abbrev pub IsLeast : {A : Type 0} → ℕ → List (ℕ × A) → Type 0
IsLeast m deeds = AllByRecursion (λ deed. m ≤ deed.0) deeds

-- its stamps are those of the steps
pub found_from : {S X : Type 0} (part : S → Option X) (m : ℕ) (xs : List (ℕ × S)) → IsLeast m xs → IsLeast m (found_in part xs)
found_from part m [] from = tt
found_from {X = X} part m (x ∷ xs) from = go (part x.1) (found_from part m xs from.1)
  where
    go : (o : Option X) → IsLeast m (found_in part xs) → IsLeast m (cons_option (option_map (λ found. (x.0, found)) o) (found_in part xs))
    go None rest = rest
    go (Some found) rest = (from.0, rest)

-- what is found, without its stamps
pub found_is : {S X : Type 0} (part : S → Option X) (xs : List (ℕ × S)) → map (λ x. x.1) (found_in part xs) ≡ filter_map part (steps_in xs)
found_is part [] = refl
found_is {X = X} part (x ∷ xs) = go (part x.1) (found_is part xs)
  where
    go : (o : Option X) → map (λ (x : ℕ × X). x.1) (found_in part xs) ≡ filter_map part (steps_in xs)
        → map (λ (x : ℕ × X). x.1) (cons_option (option_map (λ found. (x.0, found)) o) (found_in part xs)) ≡ cons_option o (filter_map part (steps_in xs))
    go None rest = rest
    go (Some found) rest = ap (λ l. found ∷ l) rest

-- what is below the rest stands in the front
pub place_in_front : {A : Type 0} (xs ys : List (ℕ × A)) (k m n : ℕ) (x : A) → IsLeast m ys → slice_get (xs ++ ys) k ≡ Some (n, x) → n < m →
    slice_get xs k ≡ Some (n, x)
place_in_front {A = A} [] ys k m n x least at lt = absurd (behind ys k least at)
  where
    behind : (ys : List (ℕ × A)) (k : ℕ) → IsLeast m ys → slice_get ys k ≡ Some (n, x) → ⊥
    behind [] k least at = cc
    behind (y ∷ ys) zero least at = let same : y ≡ (n, x) = cc in let e : y.0 ≡ n = ap (λ (d : ℕ × A). d.0) same in omega (arith, least.0, e, lt)
    behind (y ∷ ys) (suc k) least at = behind ys k least.1 at
place_in_front (z ∷ xs) ys zero m n x least at lt = at
place_in_front (z ∷ xs) ys (suc k) m n x least at lt = place_in_front xs ys k m n x least at lt
