-- Sums over lists, and over the parts of a list.
use Rattle.example_callers.proofs.Common.{◌≡◌, ◌≢◌, ℕ, suc, ◌+◌, ◌==◌, Bool, true, false, cond, List, [], ◌∷◌, get_or, map, filter, refl, ap, sym, ◌∙◌, arith}
use Rattle.example_callers.proofs.Common.{All, AllPairs, ne_eqb, eqb-true, eq-eqb, ◌||◌, sum_by, list_any, All-head, All-tail, sum_by-cons, contains}

-- the same terms have the same sum
pub sum_by_same : {A : Type 0} (f g : A → ℕ) (xs : List A) → All (λ x. f x ≡ g x) xs → sum_by f xs ≡ sum_by g xs
sum_by_same f g [] same = refl
sum_by_same {A = A} f g (x ∷ xs) same =
    let one : f x ≡ g x = All-head (λ y. f y ≡ g y) x xs same in
    let rest : sum_by f xs ≡ sum_by g xs = sum_by_same f g xs (All-tail (λ y. f y ≡ g y) x xs same) in
    let left : sum_by f (x ∷ xs) ≡ f x + sum_by f xs = sum_by-cons f x xs in
    let right : sum_by g (x ∷ xs) ≡ g x + sum_by g xs = sum_by-cons g x xs in
    omega (arith, one, rest, left, right)

-- a sum over a mapped list is one over the list itself, of the terms that it is mapped to
pub sum_by_map : {A B : Type 0} (f : B → ℕ) (h : A → B) (xs : List A) → sum_by f (map h xs) ≡ sum_by (λ x. f (h x)) xs
sum_by_map f h [] = refl
sum_by_map {A = A} f h (x ∷ xs) =
    let rest : sum_by f (map h xs) ≡ sum_by (λ y. f (h y)) xs = sum_by_map f h xs in
    let left : sum_by f (h x ∷ map h xs) ≡ f (h x) + sum_by f (map h xs) = sum_by-cons f (h x) (map h xs) in
    let right : sum_by (λ y. f (h y)) (x ∷ xs) ≡ f (h x) + sum_by (λ y. f (h y)) xs = sum_by-cons (λ y. f (h y)) x xs in
    omega (arith, rest, left, right)

pub sum_by_both : {A : Type 0} (f g : A → ℕ) (xs : List A) → sum_by (λ x. f x + g x) xs ≡ sum_by f xs + sum_by g xs
sum_by_both f g [] = refl
sum_by_both {A = A} f g (x ∷ xs) =
    let rest : sum_by (λ y. f y + g y) xs ≡ sum_by f xs + sum_by g xs = sum_by_both f g xs in
    let all : sum_by (λ y. f y + g y) (x ∷ xs) ≡ (f x + g x) + sum_by (λ y. f y + g y) xs = sum_by-cons (λ y. f y + g y) x xs in
    let left : sum_by f (x ∷ xs) ≡ f x + sum_by f xs = sum_by-cons f x xs in
    let right : sum_by g (x ∷ xs) ≡ g x + sum_by g xs = sum_by-cons g x xs in
    omega (arith, rest, all, left, right)

pub sum_by_nothing : {A : Type 0} (xs : List A) → sum_by (λ x. 0) xs ≡ 0
sum_by_nothing [] = refl
sum_by_nothing {A = A} (x ∷ xs) =
    let rest : sum_by (λ y. 0) xs ≡ 0 = sum_by_nothing xs in
    let all : sum_by (λ y. 0) (x ∷ xs) ≡ 0 + sum_by (λ y. 0) xs = sum_by-cons (λ y. 0) x xs in
    omega (arith, rest, all)

-- a sum of sums, the other way round
pub sum_by_turned : {A B : Type 0} (f : A → B → ℕ) (xs : List A) (ys : List B) → sum_by (λ x. sum_by (f x) ys) xs ≡ sum_by (λ y. sum_by (λ x. f x y) xs) ys
sum_by_turned f [] ys = sym (sum_by_nothing ys)
sum_by_turned {A = A} {B = B} f (x ∷ xs) ys =
    let rest : sum_by (λ z. sum_by (f z) ys) xs ≡ sum_by (λ y. sum_by (λ z. f z y) xs) ys = sum_by_turned f xs ys in
    let all : sum_by (λ z. sum_by (f z) ys) (x ∷ xs) ≡ sum_by (f x) ys + sum_by (λ z. sum_by (f z) ys) xs = sum_by-cons (λ z. sum_by (f z) ys) x xs in
    let both : sum_by (λ y. f x y + sum_by (λ z. f z y) xs) ys ≡ sum_by (f x) ys + sum_by (λ y. sum_by (λ z. f z y) xs) ys =
    sum_by_both (f x) (λ y. sum_by (λ z. f z y) xs) ys in
    let each : sum_by (λ y. sum_by (λ z. f z y) (x ∷ xs)) ys ≡ sum_by (λ y. f x y + sum_by (λ z. f z y) xs) ys =
    sum_by_same (λ y. sum_by (λ z. f z y) (x ∷ xs)) (λ y. f x y + sum_by (λ z. f z y) xs) ys (λ k d below. sum_by-cons (λ z. f z (get_or ys k d)) x xs) in
    omega (arith, rest, all, both, each)

-- a term for one number alone, in a list without it, and in a list of distinct numbers that has it
abbrev only : ℕ → ℕ → ℕ → ℕ
only c v d = cond (c == d) v 0

only_elsewhere : (c v : ℕ) (ds : List ℕ) → All (λ d. c ≢ d) ds → sum_by (only c v) ds ≡ 0
only_elsewhere c v [] apart = refl
only_elsewhere c v (d ∷ ds) apart =
    let one : only c v d ≡ 0 = ap (λ b. cond b v 0) (ne_eqb c d (All-head (λ e. c ≢ e) d ds apart)) in
    let rest : sum_by (only c v) ds ≡ 0 = only_elsewhere c v ds (All-tail (λ e. c ≢ e) d ds apart) in
    let all : sum_by (only c v) (d ∷ ds) ≡ only c v d + sum_by (only c v) ds = sum_by-cons (only c v) d ds in
    omega (arith, one, rest, all)

only_once : (c v : ℕ) (ds : List ℕ) → AllPairs (λ one other. one ≢ other) ds → contains c ds ≡ true → sum_by (only c v) ds ≡ v
only_once c v [] differ has = cc
only_once c v (d ∷ ds) differ has = go (d == c) refl has (λ h. only_once c v ds (λ i j e before below. differ (suc i) (suc j) e (omega arith) (omega arith)) h)
  where
    all : sum_by (only c v) (d ∷ ds) ≡ only c v d + sum_by (only c v) ds
    all = sum_by-cons (only c v) d ds

    go : (b : Bool) → (d == c) ≡ b → (b || list_any (λ e. e == c) ds) ≡ true → (contains c ds ≡ true → sum_by (only c v) ds ≡ v) →
        sum_by (only c v) (d ∷ ds) ≡ v
    go true is found rest =
        let same : d ≡ c = eqb-true d c is in
        let one : only c v d ≡ v = ap (λ b. cond b v 0) (eq-eqb c d (sym same)) in
        let others : sum_by (only c v) ds ≡ 0 = only_elsewhere c v ds (λ k e below equal. differ 0 (suc k) e (omega arith) (omega arith) (same ∙ equal)) in
        omega (arith, one, others, all)
    go false is found rest =
        let one : only c v d ≡ 0 = ap (λ b. cond b v 0) (ne_eqb c d (λ same. cc (is, eq-eqb d c (sym same)))) in
        omega (arith, one, rest found, all)

-- a sum over a list is the sum over the keys of the sums over what has that key, where the keys differ and none is missing
module _ {A : Type 0} (key : A → ℕ) (f : A → ℕ) where
  abbrev pub of_key : ℕ → List A → List A
  of_key c xs = filter (λ x. key x == c) xs

  one_more : (x : A) (xs : List A) (c : ℕ) → sum_by f (of_key c (x ∷ xs)) ≡ only (key x) (f x) c + sum_by f (of_key c xs)
  one_more x xs c = go (key x == c)
    where
      go : (b : Bool) → sum_by f (cond b (x ∷ of_key c xs) (of_key c xs)) ≡ cond b (f x) 0 + sum_by f (of_key c xs)
      go true = sum_by-cons f x (of_key c xs)
      go false = omega arith

  -- the sums over what has each key add up to that over the list, where the keys differ and none is missing
  pub by_keys : (keys : List ℕ) (xs : List A) → AllPairs (λ one other. one ≢ other) keys → All (λ x. contains (key x) keys ≡ true) xs
      → sum_by (λ c. sum_by f (of_key c xs)) keys ≡ sum_by f xs
  by_keys keys [] differ known = sum_by_nothing keys
  by_keys keys (x ∷ xs) differ known =
      let rest : sum_by (λ c. sum_by f (of_key c xs)) keys ≡ sum_by f xs = by_keys keys xs differ (All-tail (λ y. contains (key y) keys ≡ true) x xs known) in
      let one : sum_by (only (key x) (f x)) keys ≡ f x = only_once (key x) (f x) keys differ (All-head (λ y. contains (key y) keys ≡ true) x xs known) in
      let each : sum_by (λ c. sum_by f (of_key c (x ∷ xs))) keys ≡ sum_by (λ c. only (key x) (f x) c + sum_by f (of_key c xs)) keys =
      sum_by_same (λ c. sum_by f (of_key c (x ∷ xs))) (λ c. only (key x) (f x) c + sum_by f (of_key c xs)) keys (λ k d below. one_more x xs _) in
      let both : sum_by (λ c. only (key x) (f x) c + sum_by f (of_key c xs)) keys ≡ sum_by (only (key x) (f x)) keys + sum_by
      (λ c. sum_by f (of_key c xs)) keys =
      sum_by_both (only (key x) (f x)) (λ c. sum_by f (of_key c xs)) keys in
      let whole : sum_by f (x ∷ xs) ≡ f x + sum_by f xs = sum_by-cons f x xs in
      omega (arith, rest, one, each, both, whole)
