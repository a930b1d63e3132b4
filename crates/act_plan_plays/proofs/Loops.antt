-- Loops over a list: what holds of all so far.
use Rattle.act_plan_plays.proofs.Common.{◌≡◌, ℕ, zero, suc, ◌+◌, ◌<◌, ◌≤◌, inl, inr, ◌⊎◌, arith, Bool, true, false, if◌then◌else◌, List, [], ◌∷◌, ◌++◌, length}
use Rattle.act_plan_plays.proofs.Common.{take, get_or, Option, Some, None, All, refl, ap, sym, ◌∙◌, subst, ◌==◌, ◌||◌, find, is_some, Result, Ok, eqb-true}
use Rattle.act_plan_plays.proofs.Common.{eq-eqb, cases_lt, take_more, take_all, All-push, find-append, option_or, range_with_len, contains, range_push}
use Rattle.act_plan_plays.proofs.Common.{contains_more, contains_push, or_right}

-- none so far is found
pub none_more : {X : Type 0} (p : X → Bool) (xs : List X) {i : ℕ} {x : X} → i < length xs → x ≡ get_or xs i x → p x ≡ false → find p (take i xs) ≡ None
    → find p (take (i + 1) xs) ≡ None
none_more {X = X} p xs {i} {x} within is fails none =
    ap (find p) (take_more xs i x within ∙ ap (λ y. take i xs ++ y ∷ []) (sym is)) ∙ find-append p (take i xs) (x ∷ [])
    ∙ ap (λ o. option_or o (find p (x ∷ []))) none ∙ last (p x) fails
  where
    last : (b : Bool) → b ≡ false → (if b then Some x else None) ≡ None
    last false e = refl
    last true e = cc

pub none_whole : {X : Type 0} (p : X → Bool) (xs : List X) {n : ℕ} → length xs ≤ n → find p (take n xs) ≡ None → find p xs ≡ None
none_whole {X = X} p xs {n} whole none = subst (λ l. find p l ≡ None) (take_all n xs whole) none

-- where none is found, none passes
pub none_passes : (p : ℕ → Bool) (xs : List ℕ) (a : ℕ) → find p xs ≡ None → contains a xs ≡ true → p a ≡ false
none_passes p [] a none there = cc
none_passes p (x ∷ xs) a none there = go (p x) refl (x == a) refl (none_passes p xs a) none there
  where
    go : (b : Bool) → p x ≡ b → (same : Bool) → (x == a) ≡ same → (find p xs ≡ None → contains a xs ≡ true → p a ≡ false)
        → (if b then Some x else find p xs) ≡ None → (same || contains a xs) ≡ true → p a ≡ false
    go true is same e rest none there = cc
    go false is true e rest none there = subst (λ y. p y ≡ false) (eqb-true x a e) is
    go false is false e rest none there = rest none there

-- the first numbers
pub in_range : (n k : ℕ) → k < n → contains k (range_with_len 0 n) ≡ true
in_range zero k below = absurd (omega arith)
in_range (suc n) k below = ap (contains k) (range_push 0 n) ∙ go (cases_lt k n) (in_range n k)
  where
    go : (k < n) ⊎ (n ≤ k) → (k < n → contains k (range_with_len 0 n) ≡ true) → contains k (range_with_len 0 n ++ (0 + n) ∷ []) ≡ true
    go (inl lt) rest = contains_more k (range_with_len 0 n) ((0 + n) ∷ []) (rest lt)
    go (inr ge) rest =
        let same : 0 + n ≡ k = omega arith in
        contains_push k (0 + n) (range_with_len 0 n) ∙ or_right (contains k (range_with_len 0 n)) _ (eq-eqb (0 + n) k same)

-- each so far
pub each_more : {X : Type 0} (P : X → Type 0) (xs : List X) {i : ℕ} {x : X} → i < length xs → x ≡ get_or xs i x → P x → All P (take i xs)
    → All P (take (i + 1) xs)
each_more {X = X} P xs {i} {x} within is holds front =
    subst (All P) (sym (take_more xs i x within)) (All-push P (take i xs) (get_or xs i x) front (subst P is holds))

-- what holds of each item so far holds of each item of the list, where none is left
pub each_whole : {X : Type 0} (P : X → Type 0) (xs : List X) {n : ℕ} → length xs ≤ n → All P (take n xs) → All P xs
each_whole P xs {n} whole front = subst (All P) (take_all n xs whole) front

pub no_move : {X E : Type 0} (o : Option X) {b : Bool} → b ≡ is_some o → b ≡ false → ◌≡◌ {A = Result (Option X) E} (Ok o) (Ok None)
no_move None e none = refl
no_move (Some x) e none = let bad : true ≡ false = sym e ∙ none in cc
