-- What a thread did, step by step, each with a stamp: what the clock of the thread showed then. Clocks are numbers that
-- only proofs speak of.
use Rattle.std.specs.Prelude.{ℕ, suc, ◌≤◌, ◌<◌, max, List, [], ◌∷◌, ◌++◌, map, filter_map, Option, option_map, All, AllPairs}
use Rattle.std.specs.List.{AllZip}

-- the greatest of these numbers
abbrev pub greatest : List ℕ → ℕ
greatest [] = 0
greatest (n ∷ ns) = max n (greatest ns)

-- what the clock of a thread shows: no less than any stamp with which it put an item, and more than any with which an
-- item was put that it took
abbrev pub clock : List ℕ → List ℕ → ℕ
clock put taken = greatest (put ++ map suc taken)

-- the steps, without their stamps
abbrev pub steps_in : {S : Type 0} → List (ℕ × S) → List S
steps_in trace = map (λ x. x.1) trace

-- what is found in the steps, each with the stamp of its step
abbrev pub found_in : {S X : Type 0} → (S → Option X) → List (ℕ × S) → List (ℕ × X)
found_in part trace = filter_map (λ x. option_map (λ found. (x.0, found)) (part x.1)) trace

-- no stamp is below an earlier one, and none is above what the clock shows now
pub record IsTimed {S : Type 0} (now : ℕ) (trace : List (ℕ × S)) : Type 0 where
  pub rising : AllPairs (λ one other. one.0 ≤ other.0) trace
  pub past : All (λ x. x.0 ≤ now) trace

-- each of these was taken with a stamp above that with which it was put
abbrev pub AreTakenLater : {T : Type 0} → List (ℕ × T) → List ℕ → Type 0
AreTakenLater taken stamps = AllZip (λ x stamp. stamp < x.0) taken stamps
