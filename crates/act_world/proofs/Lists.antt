-- Laws of lists: what stands at a place, what is written there, and what a filter leaves.
use Rattle.act_world.proofs.Common.{◌≡◌, ℕ, zero, suc, true, false, List, [], ◌∷◌, length, Some, None, refl, ap, sym, Bool, cond, arith, slice_get}
use Rattle.act_world.proofs.Common.{slice_set, filter, take, zip, slice_get_past, ◌∙◌, get_or, nat_lt, ltb-true, slice_get-get_or}

pub zip_at : {X Y : Type 0} (xs : List X) (ys : List Y) (j : ℕ) (x : X) {y : Y} → slice_get xs j ≡ Some x → slice_get ys j ≡ Some y →
    slice_get (zip xs ys) j ≡ Some (x, y)
zip_at [] ys j x e f = cc
zip_at (z ∷ xs) [] j x e f = cc
zip_at (z ∷ xs) (w ∷ ys) zero x {y} e f = let one : z ≡ x = cc in let two : w ≡ y = cc in rw (one, two) refl
zip_at (z ∷ xs) (w ∷ ys) (suc j) x {y} e f = zip_at xs ys j x e f

-- the item that is read there
pub read_is : {X : Type 0} {read items : List X} (n : ℕ) {x : X} → read ≡ items → true ≡ nat_lt n (length read) → x ≡ get_or read n x →
    slice_get items n ≡ Some x
read_is {X = X} {read} n {x} same within is =
    ap (λ l. slice_get l n) (sym same) ∙ slice_get-get_or read n x (ltb-true n (length read) (sym within)) ∙ ap (λ y. Some y) (sym is)

-- what a list contains, a longer one does
-- where an element of a filtered list stands in the list, and how many pass before it
pub record IsRanked {A : Type 0} (p : A → Bool) (xs : List A) (n : ℕ) (x : A) : Type 0 where
  pub place : ℕ
  pub at : slice_get xs place ≡ Some x
  pub rank_is : length (filter p (take place xs)) ≡ n

pub filter_rank : {A : Type 0} (p : A → Bool) (xs : List A) (n : ℕ) (x : A) → slice_get (filter p xs) n ≡ Some x → IsRanked p xs n x
filter_rank p [] n x e = cc
filter_rank {A = A} p (y ∷ xs) n x e = go (p y) refl n (λ m. filter_rank p xs m x) e
  where
    go : (b : Bool) → p y ≡ b → (n : ℕ) → ((m : ℕ) → slice_get (filter p xs) m ≡ Some x → IsRanked p xs m x) →
        slice_get (cond b (y ∷ filter p xs) (filter p xs)) n ≡ Some x → IsRanked p (y ∷ xs) n x
    go true passes zero rest e = record { place = zero; at = e; rank_is = refl }
    go true passes (suc m) rest e = record { place = suc (rest m e).place; at = (rest m e).at; rank_is = rw passes (ap suc (rest m e).rank_is) }
    go false passes n rest e = record { place = suc (rest n e).place; at = (rest n e).at; rank_is = rw passes (rest n e).rank_is }

-- what stands at a place, written there again, leaves the list as it was
pub set-same : {X : Type 0} (xs : List X) (i : ℕ) {x : X} → slice_get xs i ≡ Some x → slice_set xs i x ≡ xs
set-same [] i e = cc
set-same {X = X} (z ∷ xs) zero {x} e = let same : z ≡ x = cc in ap (λ w. w ∷ xs) (sym same)
set-same {X = X} (z ∷ xs) (suc i) {x} e = ap (λ ys. z ∷ ys) (set-same xs i e)

-- what stands at no place of a list stands at none of one as long
pub none_alike : {A B : Type 0} (xs : List A) (ys : List B) (i : ℕ) → None ≡ slice_get xs i → length xs ≡ length ys → slice_get ys i ≡ None
none_alike [] ys i none same = slice_get_past ys i (omega arith)
none_alike (x ∷ xs) ys zero none same = cc
none_alike (x ∷ xs) [] (suc i) none same = refl
none_alike (x ∷ xs) (y ∷ ys) (suc i) none same = none_alike xs ys i none (omega arith)
