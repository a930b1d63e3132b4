-- Elements that are searched by a key, and those found for keys one after another.
use Rattle.act_plans.proofs.Common.{◌≡◌, ◌≢◌, ℕ, suc, ◌<◌, ◌==◌, Bool, true, false, ◌&&◌, ◌||◌, if◌then◌else◌, List, [], ◌∷◌, length, map, get_or, Option, Some}
use Rattle.act_plans.proofs.Common.{None, refl, sym, ◌∙◌, ap, subst, arith, eq-eqb, inl, inr, All, AllPairs, find, filter, filter_map, list_any, cons_option}
use Rattle.act_plans.proofs.Common.{position_or_len, ne_eqb, eqb-true, eqb_tells, length-map, get_or-map, All-nil, All-cons, find_at, list_any_at}
use Rattle.act_plans.proofs.Common.{list_any_none, passes_at_first, slice_get_within, get_or_from_slice_get, or-false, contains}
use Rattle.act_rules.proofs.Elements.{found_passes}

-- ---- pairs

-- where a mapped list has no number twice, no two items of the list are mapped to one number
pub pairs_of_map : {X : Type 0} (f : X → ℕ) (xs : List X) → AllPairs (λ one other. one ≢ other) (map f xs) → AllPairs (λ one other. f one ≢ f other) xs
pairs_of_map f xs apart i j d before below same =
    apart i j (f d) before (omega (arith, length-map xs f)) (get_or-map f xs i d (f d) (omega arith) ∙ same ∙ sym (get_or-map f xs j d (f d) below))

-- ---- what a search finds

pub found_within : {X : Type 0} (p : X → Bool) (xs : List X) (x : X) → find p xs ≡ Some x →
    (position_or_len p xs < length xs) × (get_or xs (position_or_len p xs) x ≡ x)
found_within p xs x is =
    let here = sym (find_at p xs) ∙ is in (slice_get_within xs (position_or_len p xs) x here, get_or_from_slice_get xs (position_or_len p xs) x x here)

pub found_any : {X : Type 0} (p : X → Bool) (xs : List X) (x : X) → find p xs ≡ Some x → list_any p xs ≡ true
found_any p xs x is = let here = found_within p xs x is in list_any_at p xs (position_or_len p xs) x here.0 (passes_at_first p xs x here.0)

-- what holds of each item of a list holds of the one that a search finds
pub found_all : {X : Type 0} (P : X → Type 0) (p : X → Bool) (xs : List X) {x : X} → All P xs → find p xs ≡ Some x → P x
found_all P p xs {x} all is = let here = found_within p xs x is in subst P here.1 (all (position_or_len p xs) x here.0)

none_step : {X : Type 0} (p : X → Bool) (x : X) (xs : List X) (b : Bool) → p x ≡ b → (find p xs ≡ None → list_any p xs ≡ false) → find p (x ∷ xs) ≡ None →
    list_any p (x ∷ xs) ≡ false
none_step p x xs true here rest is = absurd (cc (is, ap (λ b. if b then Some x else find p xs) here))
none_step p x xs false here rest is = ap (λ b. b || list_any p xs) here ∙ rest (sym (ap (λ b. if b then Some x else find p xs) here) ∙ is)

pub none_any : {X : Type 0} (p : X → Bool) (xs : List X) → find p xs ≡ None → list_any p xs ≡ false
none_any p [] is = refl
none_any p (x ∷ xs) is = none_step p x xs (p x) refl (none_any p xs) is

-- ---- those found for keys one after another

-- the first elements of these keys, where there are some
abbrev pub firsts : {X : Type 0} → (X → ℕ) → List X → List ℕ → List X
firsts key xs ns = filter_map (λ n. find (λ x. key x == n) xs) ns

keys_step : {X : Type 0} (key : X → ℕ) (xs : List X) (n : ℕ) (ns : List ℕ) (o : Option X) → find (λ x. key x == n) xs ≡ o → map key (firsts key xs ns) ≡ filter
    (λ n. list_any (λ x. key x == n) xs) ns → map key (firsts key xs (n ∷ ns)) ≡ filter (λ n. list_any (λ x. key x == n) xs) (n ∷ ns)
keys_step key xs n ns None here rest =
    ap (λ o. map key (cons_option o (firsts key xs ns))) here ∙ rest
    ∙ sym (ap (λ b. if b then n ∷ filter (λ n. list_any (λ x. key x == n) xs) ns else filter (λ n. list_any (λ x. key x == n) xs) ns)
    (none_any (λ x. key x == n) xs here))
keys_step key xs n ns (Some x) here rest =
    ap (λ o. map key (cons_option o (firsts key xs ns))) here ∙
    ap (λ m. m ∷ map key (firsts key xs ns)) (eqb-true (key x) n (found_passes (λ x. key x == n) xs here)) ∙ ap (λ l. n ∷ l) rest
    ∙ sym (ap (λ b. if b then n ∷ filter (λ n. list_any (λ x. key x == n) xs) ns else filter (λ n. list_any (λ x. key x == n) xs) ns)
    (found_any (λ x. key x == n) xs x here))

-- their keys are those that an element has
pub keys_found : {X : Type 0} (key : X → ℕ) (xs : List X) (ns : List ℕ) → map key (firsts key xs ns) ≡ filter (λ n. list_any (λ x. key x == n) xs) ns
keys_found key xs [] = refl
keys_found key xs (n ∷ ns) = keys_step key xs n ns (find (λ x. key x == n) xs) refl (keys_found key xs ns)

all_step : {X : Type 0} (P : X → Type 0) (p : X → Bool) (xs rest : List X) (o : Option X) → find p xs ≡ o → All P xs → All P rest → All P (cons_option o rest)
all_step P p xs rest None here all more = more
all_step P p xs rest (Some x) here all more = All-cons P x rest (found_all P p xs all here) more

-- what holds of all elements holds of them
pub all_firsts : {X : Type 0} (P : X → Type 0) (key : X → ℕ) (xs : List X) (ns : List ℕ) → All P xs → All P (firsts key xs ns)
all_firsts P key xs [] all = All-nil P
all_firsts P key xs (n ∷ ns) all = all_step P (λ x. key x == n) xs (firsts key xs ns) (find (λ x. key x == n) xs) refl all (all_firsts P key xs ns all)

first_step : {X : Type 0} (key : X → ℕ) (xs : List X) (n : ℕ) (rest : List X) (o : Option X) → find (λ x. key x == n) xs ≡ o
    → All (λ x. find (λ y. key y == key x) xs ≡ Some x) rest → All (λ x. find (λ y. key y == key x) xs ≡ Some x) (cons_option o rest)
first_step key xs n rest None here all = all
first_step key xs n rest (Some x) here all =
    All-cons (λ x. find (λ y. key y == key x) xs ≡ Some x) x rest
    (subst (λ m. find (λ y. key y == m) xs ≡ Some x) (sym (eqb-true (key x) n (found_passes (λ y. key y == n) xs here))) here) all

-- each of them is the first of its key
pub each_first : {X : Type 0} (key : X → ℕ) (xs : List X) (ns : List ℕ) → All (λ x. find (λ y. key y == key x) xs ≡ Some x) (firsts key xs ns)
each_first key xs [] = All-nil (λ x. find (λ y. key y == key x) xs ≡ Some x)
each_first key xs (n ∷ ns) = first_step key xs n (firsts key xs ns) (find (λ x. key x == n) xs) refl (each_first key xs ns)

none_either : {X : Type 0} (b : Bool) {o : Option X} → o ≡ None → (if b then o else None) ≡ None
none_either true none = none
none_either false none = refl

among_step : {X : Type 0} (key : X → ℕ) (xs : List X) (a n : ℕ) (ns : List ℕ) (o : Option X) → find (λ x. key x == n) xs ≡ o
    → find (λ x. key x == a) (firsts key xs ns) ≡ (if contains a ns then find (λ x. key x == a) xs else None)
    → find (λ x. key x == a) (cons_option o (firsts key xs ns)) ≡ (if (n == a) || contains a ns then find (λ x. key x == a) xs else None)
among_step key xs a n ns None here rest = elim (eqb_tells n a) [
  | inl t ↦
      let none : find (λ x. key x == a) xs ≡ None = subst (λ m. find (λ x. key x == m) xs ≡ None) t.1 here in
      rest ∙ none_either (contains a ns) none ∙ sym (ap (λ b. if b || contains a ns then find (λ x. key x == a) xs else None) t.0 ∙ none)
  | inr f ↦ rest ∙ sym (ap (λ b. if b || contains a ns then find (λ x. key x == a) xs else None) f.0)
]
among_step key xs a n ns (Some x) here rest =
    let is : key x ≡ n = eqb-true (key x) n (found_passes (λ x. key x == n) xs here) in
    elim (eqb_tells n a) [
      | inl t ↦
          let some : find (λ x. key x == a) xs ≡ Some x = subst (λ m. find (λ x. key x == m) xs ≡ Some x) t.1 here in
          ap (λ b. if b then Some x else find (λ x. key x == a) (firsts key xs ns)) (eq-eqb (key x) a (is ∙ t.1)) ∙
          sym (ap (λ b. if b || contains a ns then find (λ x. key x == a) xs else None) t.0 ∙ some)
      | inr f ↦
          ap (λ b. if b then Some x else find (λ x. key x == a) (firsts key xs ns)) (ne_eqb (key x) a (λ same. f.1 (sym is ∙ same))) ∙ rest ∙
          sym (ap (λ b. if b || contains a ns then find (λ x. key x == a) xs else None) f.0)
    ]

-- a search among them finds what it finds among all, where the key is one of these
pub found_among : {X : Type 0} (key : X → ℕ) (xs : List X) (a : ℕ) (ns : List ℕ) →
    find (λ x. key x == a) (firsts key xs ns) ≡ (if contains a ns then find (λ x. key x == a) xs else None)
found_among key xs a [] = refl
found_among key xs a (n ∷ ns) = among_step key xs a n ns (find (λ x. key x == n) xs) refl (found_among key xs a ns)

-- ---- an element of a key that passes a test

abbrev pub passes : {X : Type 0} → (X → Bool) → Option X → Bool
passes p None = false
passes p (Some x) = p x

-- where the keys differ, it is the first one of the key
pub any_of_key : {X : Type 0} (key : X → ℕ) (p : X → Bool) (a : ℕ) (xs : List X) → AllPairs (λ one other. key one ≢ key other) xs →
    list_any (λ x. (key x == a) && p x) xs ≡ passes p (find (λ x. key x == a) xs)
any_of_key key p a [] apart = refl
any_of_key key p a (x ∷ xs) apart = elim (eqb_tells (key x) a) [
  | inl t ↦
      let others : list_any (λ x. (key x == a) && p x) xs ≡ false = list_any_none (λ x. (key x == a) && p x) xs
      (λ k d below. ap (λ b. b && p (get_or xs k d))
      (ne_eqb (key (get_or xs k d)) a (λ same. apart 0 (suc k) d (omega arith) (omega arith) (t.1 ∙ sym same)))) in
      ap (λ b. (b && p x) || list_any (λ x. (key x == a) && p x) xs) t.0 ∙ ap (λ b. p x || b) others ∙ or-false (p x) ∙
      sym (ap (λ b. passes p (if b then Some x else find (λ x. key x == a) xs)) t.0)
  | inr f ↦
      ap (λ b. (b && p x) || list_any (λ x. (key x == a) && p x) xs) f.0 ∙
      any_of_key key p a xs (λ i j d before below. apart (suc i) (suc j) d (omega arith) (omega arith))
      ∙ sym (ap (λ b. passes p (if b then Some x else find (λ x. key x == a) xs)) f.0)
]
