-- Fronts of one list, what stands in a list, and what a pushed list holds.
use Rattle.act_told_ends.proofs.Common.{◌≡◌, ℕ, zero, suc, ◌≤◌, List, [], ◌∷◌, ◌++◌, length, take, Option, Some, None, inl, inr, ◌⊎◌, refl, ap, sym}
use Rattle.act_told_ends.proofs.Common.{◌∙◌, subst, slice_get, filter_map, cons_option, IsPrefix, take-prefix, take-front, slice_get_pushed, stands_in}
use Rattle.act_told_ends.proofs.Common.{gives_first}

-- ---- fronts of one list

pub front_of_front : {A : Type 0} (xs ys zs : List A) → IsPrefix xs zs → IsPrefix ys zs → length xs ≤ length ys → IsPrefix xs ys
front_of_front {A = A} xs ys zs f g le =
    subst (λ l. IsPrefix l ys) (take-front xs zs f)
    (subst (λ l. IsPrefix (take (length xs) zs) l) (take-front ys zs g) (take-prefix zs (length xs) (length ys) le))

-- fronts of one list that are as long are the same
pub fronts_same : {A : Type 0} (xs ys zs : List A) → IsPrefix xs zs → IsPrefix ys zs → length xs ≡ length ys → xs ≡ ys
fronts_same {A = A} xs ys zs f g e = sym (take-front xs zs f) ∙ ap (λ n. take n zs) e ∙ take-front ys zs g

-- ---- what stands in a list

-- what stands in a pushed list stood there, or is what was pushed
pub push_at : {A : Type 0} (xs : List A) (x : A) {y : A} (i : ℕ) → slice_get (xs ++ x ∷ []) i ≡ Some y → (slice_get xs i ≡ Some y) ⊎ ((i ≡ length xs) × (y ≡ x))
push_at xs x {y} i e = elim (slice_get_pushed xs x i e) [ inl old ↦ inl old | inr new ↦ inr (new.0, sym new.1) ]

-- the first thing that a list gives is given by one that stands in it
pub first_in : {A B : Type 0} (f : A → Option B) (xs : List A) (y : B) → slice_get (filter_map f xs) 0 ≡ Some y
    → (x : A) × (i : ℕ) × (slice_get xs i ≡ Some x) × (f x ≡ Some y)
first_in f [] y e = cc
first_in {A = A} {B = B} f (x ∷ xs) y e = go (f x) refl (first_in f xs y) e
  where
    go : (o : Option B) → f x ≡ o → (slice_get (filter_map f xs) 0 ≡ Some y → (z : A) × (i : ℕ) × (slice_get xs i ≡ Some z) × (f z ≡ Some y))
        → slice_get (cons_option o (filter_map f xs)) 0 ≡ Some y → (z : A) × (i : ℕ) × (slice_get (x ∷ xs) i ≡ Some z) × (f z ≡ Some y)
    go None is rest e = let found = rest e in (found.0, suc found.1, found.2, found.3)
    go (Some z) is rest e = (x, zero, refl, is ∙ e)

-- where one gives something, some first does
pub some_first : {A B : Type 0} (f : A → Option B) (xs : List A) (i : ℕ) {x : A} (y : B) → slice_get xs i ≡ Some x → f x ≡ Some y
    → (z : B) × (slice_get (filter_map f xs) 0 ≡ Some z)
some_first f xs i {x} y at gives = gives_first f xs x (stands_in xs i at) gives
