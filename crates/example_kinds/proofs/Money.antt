-- How the sum of a list changes with one of its elements.
use Rattle.example_kinds.proofs.Common.{◌≡◌, ℕ, ◌+◌, ◌-◌, ◌<◌, ◌≤◌, List, length, get_or, set, arith, sum, sum_by-set}

pub sum_given : (xs : List ℕ) (k n : ℕ) → k < length xs → sum (set xs k (get_or xs k 0 + n)) ≡ sum xs + n
sum_given xs k n h =
    let e : sum (set xs k (get_or xs k 0 + n)) + get_or xs k 0 ≡ sum xs + (get_or xs k 0 + n) = sum_by-set (λ x. x) xs k (get_or xs k 0 + n) 0 h in
    omega (arith, e)

pub sum_taken : (xs : List ℕ) (k n : ℕ) → k < length xs → n ≤ get_or xs k 0 → sum (set xs k (get_or xs k 0 - n)) + n ≡ sum xs
sum_taken xs k n h enough =
    let e : sum (set xs k (get_or xs k 0 - n)) + get_or xs k 0 ≡ sum xs + (get_or xs k 0 - n) = sum_by-set (λ x. x) xs k (get_or xs k 0 - n) 0 h in
    omega (arith, e, enough)
