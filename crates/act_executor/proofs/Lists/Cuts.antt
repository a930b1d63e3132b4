-- Lists that are cut: what stands in a front of them.
use Rattle.act_executor.proofs.Common.{◌≡◌, ℕ, suc, ◌≤◌, ◌<◌, List, [], ◌∷◌, ◌++◌, Some, All, refl, ap, sym, ◌∙◌, arith, Contains, slice_get, AllPairs}
use Rattle.act_executor.proofs.Common.{All-append, All-head, All-tail, recursion_from_All, Contains-append_right, AllPairs-cons, IsPrefix, slice_get_front}
use Rattle.act_executor.proofs.Common.{IsFrontBelow, place_in_front, IsIn, in_from_contains, contains_from_in, all_in, front_by_places}
use Rattle.act_serve.proofs.Clocks.{contains_head}

-- ---- what is contained

-- the one item of a list has no pair
pub pairs_one : {A : Type 0} (R : A → A → Type 0) (x : A) → AllPairs R (x ∷ [])
pairs_one R x i j e first second = absurd (omega arith)

-- what stands between two lists
pub contains_mid : {A : Type 0} (xs ys : List A) (x : A) → Contains (xs ++ x ∷ ys) x
contains_mid xs ys x = Contains-append_right xs (x ∷ ys) x (contains_head x ys)

-- ---- pairs of two lists

-- pairs of two lists, and pairs across them, are those of the whole
pub pairs_append : {A : Type 0} (R : A → A → Type 0) (xs ys : List A) → AllPairs R xs → AllPairs R ys → All (λ x. All (R x) ys) xs → AllPairs R (xs ++ ys)
pairs_append R [] ys one other across = other
pairs_append R (x ∷ xs) ys one other across =
    AllPairs-cons R x (xs ++ ys)
    (All-append (R x) xs ys (λ k d below. one 0 (suc k) d (omega arith) (omega (arith, below))) (All-head (λ y. All (R y) ys) x xs across))
    (pairs_append R xs ys (λ i j d lt below. one (suc i) (suc j) d (omega (arith, lt)) (omega (arith, below))) other (All-tail (λ y. All (R y) ys) x xs across))

-- ---- a front that has all earlier ones

module _ {S : Type 0} (m : ℕ) (trace front : List (ℕ × S)) (seen : IsFrontBelow m trace front) where
  -- an earlier step of the trace stands at its place in the front
  pub place_seen : (k n : ℕ) {step : S} → slice_get trace k ≡ Some (n, step) → n < m → slice_get front k ≡ Some (n, step)
  place_seen k n {step} at lt =
      place_in_front front seen.later k m n step (recursion_from_All (λ (x : ℕ × S). m ≤ x.0) seen.later seen.from)
      (ap (λ l. slice_get l k) (sym seen.cut) ∙ at) lt

  -- an earlier step that the trace contains is contained in the front
  pub step_seen : {n : ℕ} (step : S) → Contains trace (n, step) → n < m → Contains front (n, step)
  step_seen {n} step has lt =
      let i : IsIn {A = ℕ × S} trace (n, step) = in_from_contains trace (n, step) has in
      contains_from_in {xs = front} {x = (n, step)} (record { place = i.place; at = place_seen i.place n i.at lt })

  -- first steps that are all earlier are the first of the front
  pub first_seen : (before later : List (ℕ × S)) → trace ≡ before ++ later → All (λ x. x.0 < m) before → IsPrefix before front
  first_seen before later cut earlier = front_by_places before front (λ k x at. place_seen k x.0 (ap (λ l. slice_get l k) cut ∙ slice_get_front before
      (before ++ later) k (later, refl) at) (all_in (λ (y : ℕ × S). y.0 < m) {xs = before} {x = x} earlier (record { place = k; at = at })))
