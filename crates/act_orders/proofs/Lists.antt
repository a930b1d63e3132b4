-- Lists that grow at their end: places, and what is said of each item with those before it.
use Rattle.act_orders.proofs.Common.{◌≡◌, ◌≢◌, ℕ, zero, suc, ◌+◌, ◌<◌, ◌⊎◌, inl, inr, List, [], ◌∷◌, ◌++◌, length, take, drop, refl, sym, ap, subst, ◌∙◌, arith}
use Rattle.act_orders.proofs.Common.{Some, slice_get, take-append-le, slice_get_within, take-append_seam, Contains, EachAfter, slice_get_more, slice_get_last}
use Rattle.act_orders.proofs.Common.{stands_in, place_in, slice_get_pushed}

-- two numbers are one, or not
pub same_or_not : (m n : ℕ) → (m ≡ n) ⊎ (m ≢ n)
same_or_not zero zero = inl refl
same_or_not zero (suc n) = inr (λ e. absurd (omega arith))
same_or_not (suc m) zero = inr (λ e. absurd (omega arith))
same_or_not (suc m) (suc n) = elim (same_or_not m n) [ inl e ↦ inl (ap (λ k. suc k) e) | inr d ↦ inr (λ e. d (omega arith)) ]

-- where an item is added at the end, each place is an old one or the last
pub get_pushed : {A : Type 0} → (xs : List A) (y : A) (i : ℕ) {v : A} → slice_get (xs ++ y ∷ []) i ≡ Some v →
    ((i < length xs) × (slice_get xs i ≡ Some v)) ⊎ ((i ≡ length xs) × (y ≡ v))
get_pushed xs y i e = elim (slice_get_pushed xs y i e) [ inl h ↦ inl (slice_get_within xs i _ h, h) | inr h ↦ inr h ]

-- the items from a place on
pub get_dropped : {A : Type 0} → (n : ℕ) (xs : List A) (i : ℕ) → slice_get (drop n xs) i ≡ slice_get xs (n + i)
get_dropped zero xs i = let e : i ≡ 0 + i = omega arith in ap (λ k. slice_get xs k) e
get_dropped (suc n) [] i = refl
get_dropped (suc n) (x ∷ xs) i = let e : suc (n + i) ≡ suc n + i = omega arith in get_dropped n xs i ∙ ap (λ k. slice_get (x ∷ xs) k) e

pub each_after_pushed : {A : Type 0} (P : List A → A → Type 0) (xs : List A) (y : A) → EachAfter P xs → P xs y → EachAfter P (xs ++ y ∷ [])
each_after_pushed {A} P xs y before here i v e =
    elim (get_pushed xs y i e) [
      | inl h ↦ subst (λ ws. P ws v) (sym (take-append-le i xs (y ∷ []) (omega (arith, h.0)))) (before i v h.1)
      | inr h ↦ let same : take i (xs ++ y ∷ []) ≡ xs = ap (λ k. take k (xs ++ y ∷ [])) h.0 ∙ take-append_seam xs (y ∷ []) in
          subst (λ w. P (take i (xs ++ y ∷ [])) w) h.1 (subst (λ ws. P ws y) (sym same) here)
    ]

pub each_after_front : {A : Type 0} (P : List A → A → Type 0) (xs ys : List A) → EachAfter P (xs ++ ys) → EachAfter P xs
each_after_front P xs ys all i v e =
    subst (λ ws. P ws v) (take-append-le i xs ys (let h = slice_get_within xs i v e in omega arith)) (all i v (slice_get_more xs ys i e))

-- the last of a list of which each is once isn't among the others
pub fresh_last : {A : Type 0} (xs : List A) (y : A) → EachAfter (λ before v. Contains before v → ⊥) (xs ++ y ∷ []) → Contains xs y → ⊥
fresh_last xs y all has = all (length xs) y (slice_get_last xs y) (subst (λ ws. Contains ws y) (sym (take-append_seam xs (y ∷ []))) has)

-- the same among the first items
pub get_taken : {A : Type 0} (i : ℕ) (xs : List A) (k : ℕ) {v : A} → slice_get (take i xs) k ≡ Some v → (k < i) × (slice_get xs k ≡ Some v)
get_taken zero xs k at = absurd (cc)
get_taken (suc i) [] k at = absurd (cc)
get_taken (suc i) (x ∷ xs) zero at = (omega arith, at)
get_taken (suc i) (x ∷ xs) (suc k) {v} at = let h = get_taken i xs k at in (omega (arith, h.0), h.1)

pub get_in_taken : {A : Type 0} (i : ℕ) (xs : List A) (k : ℕ) {v : A} → slice_get xs k ≡ Some v → k < i → slice_get (take i xs) k ≡ Some v
get_in_taken zero xs k at lt = absurd (omega arith)
get_in_taken (suc i) [] k at lt = absurd (cc)
get_in_taken (suc i) (x ∷ xs) zero at lt = at
get_in_taken (suc i) (x ∷ xs) (suc k) {v} at lt = get_in_taken i xs k at (omega arith)

-- what stands in a front has a place in it
pub found_before : {A : Type 0} (i : ℕ) (xs : List A) (v : A) → Contains (take i xs) v → (k : ℕ) × (k < i) × (slice_get xs k ≡ Some v)
found_before i xs v has = let f = place_in (take i xs) v has in let g = get_taken i xs f.0 f.1 in (f.0, g.0, g.1)

-- what has a place below a front's length stands in the front
pub has_before : {A : Type 0} (i : ℕ) (xs : List A) (k : ℕ) {v : A} → slice_get xs k ≡ Some v → k < i → Contains (take i xs) v
has_before i xs k {v} at lt = stands_in (take i xs) k (get_in_taken i xs k at lt)
