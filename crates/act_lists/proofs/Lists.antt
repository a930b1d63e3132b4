-- What stands in a list, what holds of all of it, and lists that are mapped and filtered.
use Rattle.std.proofs.Common.{◌≡◌, ◌≢◌, ℕ, zero, suc, ◌+◌, ◌<◌, ◌≤◌, ◌⊎◌, inl, inr, Bool, true, false, if◌then◌else◌, List, [], ◌∷◌, ◌++◌, length, Option, Some}
use Rattle.std.proofs.Common.{refl, ap, sym, ◌∙◌, arith, AllPairs, Contains, map, filter, filter_map, take, drop, slice_get, slice_set, get_or, None}
use Rattle.std.specs.List.{AllByRecursion, cons_option, enumerate_from, list_all}
use Rattle.std.proofs.lemmas.Bool.{and_from, and_parts}
use Rattle.std.proofs.lemmas.List.{append-nil, drop_all, take_all}
use Rattle.std.proofs.lemmas.Option.{get_or_from_slice_get, slice_get-get_or, slice_get_within}

-- ---- what stands at a place

-- what stands at a place still does when more is added
pub slice_get_more : {A : Type 0} (xs ys : List A) (k : ℕ) {x : A} → slice_get xs k ≡ Some x → slice_get (xs ++ ys) k ≡ Some x
slice_get_more [] ys k e = cc
slice_get_more (y ∷ xs) ys zero e = e
slice_get_more (y ∷ xs) ys (suc k) {x} e = slice_get_more xs ys k e

-- the one that was added last
pub slice_get_last : {A : Type 0} (xs : List A) (x : A) → slice_get (xs ++ x ∷ []) (length xs) ≡ Some x
slice_get_last [] x = refl
slice_get_last (y ∷ xs) x = slice_get_last xs x

-- where one is added, each place is an old one or the last
pub slice_get_pushed : {A : Type 0} (xs : List A) (x : A) (k : ℕ) {y : A} → slice_get (xs ++ x ∷ []) k ≡ Some y
    → (slice_get xs k ≡ Some y) ⊎ ((k ≡ length xs) × (x ≡ y))
slice_get_pushed [] x zero e = inr (refl, cc)
slice_get_pushed [] x (suc k) e = cc
slice_get_pushed (z ∷ xs) x zero e = inl e
slice_get_pushed (z ∷ xs) x (suc k) {y} e = elim (slice_get_pushed xs x k e) [ inl t ↦ inl t | inr f ↦ inr (ap suc f.0, f.1) ]

-- something stands at each place below the length
pub element : {A : Type 0} (xs : List A) (i : ℕ) → i < length xs → (x : A) × (slice_get xs i ≡ Some x)
element [] i lt = absurd (omega (arith, lt))
element (x ∷ xs) zero lt = (x, refl)
element (x ∷ xs) (suc i) lt = element xs i (omega arith)

-- a place at which a list has no item isn't below its length
pub past_none : {A : Type 0} (xs : List A) (k : ℕ) → slice_get xs k ≡ None → length xs ≤ k
past_none [] k e = omega arith
past_none (x ∷ xs) zero e = cc
past_none (x ∷ xs) (suc k) e = let n = past_none xs k e in omega (arith, n)

-- what is written at a place of a list stands there
pub get_set-same : {A : Type 0} (xs : List A) (i : ℕ) {x : A} (y : A) → slice_get xs i ≡ Some x → slice_get (slice_set xs i y) i ≡ Some y
get_set-same [] i y e = cc
get_set-same (z ∷ xs) zero y e = refl
get_set-same (z ∷ xs) (suc i) {x} y e = get_set-same xs i y e

-- what is written at one place leaves what stands at another
pub get_set-other : {A : Type 0} (xs : List A) (i j : ℕ) (y : A) → i ≢ j → slice_get (slice_set xs i y) j ≡ slice_get xs j
get_set-other [] i j y apart = refl
get_set-other (z ∷ xs) zero zero y apart = absurd (apart refl)
get_set-other (z ∷ xs) zero (suc j) y apart = refl
get_set-other (z ∷ xs) (suc i) zero y apart = refl
get_set-other (z ∷ xs) (suc i) (suc j) y apart = get_set-other xs i j y (λ e. apart (ap suc e))

-- the item that is read at a place within the list stands there
pub item_at : {A : Type 0} (xs : List A) (n : ℕ) (x : A) → n < length xs → x ≡ get_or xs n x → slice_get xs n ≡ Some x
item_at xs n x within is = slice_get-get_or xs n x within ∙ ap Some (sym is)

-- what a list contains has a place in it
pub place_in : {A : Type 0} (xs : List A) (x : A) → Contains xs x → (k : ℕ) × (slice_get xs k ≡ Some x)
place_in xs x has = (has.0, slice_get-get_or xs has.0 x has.1 ∙ ap Some has.2)

-- what a list contains, it contains with one more before it
pub contains_tail : {A : Type 0} (x y : A) (xs : List A) → Contains xs y → Contains (x ∷ xs) y
contains_tail x y xs has = (suc has.0, omega (arith, has.1), has.2)

-- what stands at a place is contained
pub stands_in : {A : Type 0} (xs : List A) (k : ℕ) {x : A} → slice_get xs k ≡ Some x → Contains xs x
stands_in xs k {x} at = (k, slice_get_within xs k x at, get_or_from_slice_get xs k x x at)

-- the first items up to a place are those before it, and what stands there
pub take_next : {A : Type 0} (xs : List A) (n : ℕ) {x : A} → slice_get xs n ≡ Some x → take (suc n) xs ≡ take n xs ++ x ∷ []
take_next [] n e = cc
take_next {A = A} (y ∷ xs) zero {x} e = let same : y ≡ x = cc in ap (λ z. z ∷ []) same
take_next {A = A} (y ∷ xs) (suc n) {x} e = ap (λ l. y ∷ l) (take_next xs n e)

-- ---- what holds of all

-- what holds at each place holds of all
pub all_from_places : {A : Type 0} (P : A → Type 0) (xs : List A) → ((k : ℕ) (x : A) → slice_get xs k ≡ Some x → P x) → AllByRecursion P xs
all_from_places P [] f = tt
all_from_places P (x ∷ xs) f = (f 0 x refl, all_from_places P xs (λ k y e. f (suc k) y e))

-- where all pass a test, all pass a weaker one
pub list_all-weaker : {A : Type 0} (p q : A → Bool) (xs : List A) → ((x : A) → p x ≡ true → q x ≡ true) → list_all p xs ≡ true → list_all q xs ≡ true
list_all-weaker p q [] f e = refl
list_all-weaker p q (x ∷ xs) f e =
    let parts = and_parts (p x) (list_all p xs) e in and_from (q x) (list_all q xs) (f x parts.0) (list_all-weaker p q xs f parts.1)

-- numbers that differ still do without the first
pub tail_apart : (x : ℕ) (xs : List ℕ) → AllPairs (λ one other. one ≢ other) (x ∷ xs) → AllPairs (λ one other. one ≢ other) xs
tail_apart x xs apart i j d lt below = apart (suc i) (suc j) d (omega arith) (omega arith)

-- ---- mapped and filtered lists

-- what maps to nothing is nothing
pub map_none : {A B : Type 0} (f : A → B) (xs : List A) → map f xs ≡ [] → xs ≡ []
map_none f [] e = refl
map_none f (x ∷ xs) e = cc

-- functions that always agree map a list to the same
pub map_alike : {A B : Type 0} (f g : A → B) (xs : List A) → ((x : A) → f x ≡ g x) → map f xs ≡ map g xs
map_alike f g [] same = refl
map_alike f g (x ∷ xs) same = rw (same x) (ap (λ l. g x ∷ l) (map_alike f g xs same))

-- the same where they may give nothing
pub filter_map_alike : {A B : Type 0} (f g : A → Option B) (xs : List A) → ((x : A) → f x ≡ g x) → filter_map f xs ≡ filter_map g xs
filter_map_alike f g [] same = refl
filter_map_alike f g (x ∷ xs) same = rw (same x) (ap (cons_option (g x)) (filter_map_alike f g xs same))

kept_step : {X Y : Type 0} (f : X → Y) (x : X) (xs : List X) {ys : List Y} (b : Bool) → ys ≡ map f xs
    → (if b then f x ∷ ys else ys) ≡ map f (if b then x ∷ xs else xs)
kept_step f x xs true is = ap (λ l. f x ∷ l) is
kept_step f x xs false is = is

-- what passes of a mapped list is what passes before it is mapped
pub filter_mapped : {X Y : Type 0} (p : Y → Bool) (f : X → Y) (xs : List X) → filter p (map f xs) ≡ map f (filter (λ x. p (f x)) xs)
filter_mapped p f [] = refl
filter_mapped p f (x ∷ xs) = kept_step f x (filter (λ x. p (f x)) xs) (p (f x)) (filter_mapped p f xs)

-- numbers that were numbered, without the places
pub map-enumerate_from : (n : ℕ) (xs : List ℕ) → map (λ (p : ℕ × ℕ). p.1) (enumerate_from n xs) ≡ xs
map-enumerate_from n [] = refl
map-enumerate_from n (x ∷ xs) = ap (λ l. x ∷ l) (map-enumerate_from (n + 1) xs)

-- a list of the same length, written over the whole of another
pub take_written_over : {X : Type 0} {n : ℕ} (xs ys : List X) → n ≡ length xs → length ys ≡ length xs → take n (ys ++ drop (length ys) xs) ≡ ys
take_written_over {n} xs ys all same = rw (drop_all (length ys) xs (omega arith), append-nil ys) (take_all n ys (omega arith))
