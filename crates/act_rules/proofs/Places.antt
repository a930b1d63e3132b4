-- Lists that agree place by place, and the names in them.
use Rattle.act_rules.proofs.Common.{◌≡◌, ◌≢◌, ℕ, zero, suc, ◌+◌, ◌<◌, ◌==◌, true, List, [], ◌∷◌, ◌++◌, Some, All, AllPairs, Contains, length, map, zip, get_or}
use Rattle.act_rules.proofs.Common.{slice_get, option_map, ◌⊎◌, inl, inr, refl, ap, sym, ◌∙◌, subst, arith, eq-eqb, eqb-true, or_right, All-head, All-tail}
use Rattle.act_rules.proofs.Common.{get_or-map, length-map, slice_get-map, slice_get-get_or, contains, or_cases, All-map, get_or_from_slice_get}
use Rattle.act_rules.proofs.Elements.{all_in, contains_is, contains_from_in}
use Rattle.act_rules.proofs.Unique.{map-slice_get}
use Rattle.std.proofs.Math.Nat.{eq-or-lt_of_le}
use Rattle.std.proofs.lemmas.List.Kept.{AllPairs-cons}

-- ---- lists that agree under two maps

module _ {X Y Z : Type 0} (f : X → Z) (g : Y → Z) (xs : List X) (ys : List Y) (same : map f xs ≡ map g ys) where
  pub at_both : (i : ℕ) {x : X} {y : Y} → slice_get xs i ≡ Some x → slice_get ys i ≡ Some y → f x ≡ g y
  at_both i {x} {y} at there =
      let one : Some (f x) ≡ Some (g y) =
      sym (slice_get-map f xs i ∙ ap (option_map f) at) ∙ ap (λ l. slice_get l i) same ∙ slice_get-map g ys i ∙ ap (option_map g) there in
      cc

  -- where one of two lists that agree has an element, the other has one there with the same image
  pub at_other : (i : ℕ) {y : Y} → slice_get ys i ≡ Some y → (x : X) × (slice_get xs i ≡ Some x) × (f x ≡ g y)
  at_other i {y} there = map-slice_get f xs i (ap (λ l. slice_get l i) same ∙ slice_get-map g ys i ∙ ap (option_map g) there)

  -- lists that agree under two maps are equally long
  pub as_long : length xs ≡ length ys
  as_long = sym (length-map xs f) ∙ ap length same ∙ length-map ys g

-- what holds of all mapped elements holds of those whose images they are
pub all_through : {X Y : Type 0} (P : X → Type 0) (f : Y → X) (ys : List Y) (xs : List X) → map f ys ≡ xs → All P xs → All (λ y. P (f y)) ys
all_through {X} {Y} P f ys xs same all k d below =
    let short : k < length xs = omega (arith, length-map ys f, ap length same) in
    subst P (sym (ap (λ l. get_or l k (f d)) same) ∙ get_or-map f ys k d (f d) below) (all k (f d) short)

-- what holds of all elements holds of the one at a place
pub all_at : {X : Type 0} (P : X → Type 0) (xs : List X) (i : ℕ) {x : X} → All P xs → slice_get xs i ≡ Some x → P x
all_at P xs i {x} all at = all_in P {xs = xs} {x = x} all (record { place = i; at = at })

-- ---- names that differ

-- where the numbers of any two elements differ, none stands twice in the list of these numbers
pub map_apart : {X : Type 0} (f : X → ℕ) (xs : List X) → AllPairs (λ one other. f one ≢ f other) xs → AllPairs (λ one other. one ≢ other) (map f xs)
map_apart f [] apart i j d below within = absurd (omega arith)
map_apart {X} f (x ∷ xs) apart i j d below within =
    let later : All (λ other. f x ≢ f other) xs = λ k e lt. apart 0 (suc k) e (omega arith) (omega arith) in
    let rest : AllPairs (λ one other. f one ≢ f other) xs = λ k l e lt lt'. apart (suc k) (suc l) e (omega arith) (omega arith) in
    let all : AllPairs (λ one other. one ≢ other) (map f (x ∷ xs)) =
    AllPairs-cons (λ one other. one ≢ other) (f x) (map f xs) (All-map (λ n. f x ≢ n) f xs later) (map_apart f xs rest) in
    all i j d below within

-- what each passes on to each later one
pub pairs_weaker : {X : Type 0} (P : X → Type 0) (Q R : X → X → Type 0) → ((x y : X) → P x → P y → Q x y → R x y) → (xs : List X) → All P xs → AllPairs Q xs →
    AllPairs R xs
pairs_weaker P Q R weaker xs all pairs i j d below within =
    weaker (get_or xs i d) (get_or xs j d) (all i d (omega arith)) (all j d within) (pairs i j d below within)

-- the names at rising places differ
pub apart_at : (ns : List ℕ) {i j : ℕ} → AllPairs (λ one other. one ≢ other) ns → i < j → j < length ns → (d e : ℕ) → get_or ns i d ≢ get_or ns j e
apart_at ns {i} {j} apart below within d e same =
    let first : i < length ns = omega arith in
    let one : slice_get ns j ≡ Some (get_or ns j e) = slice_get-get_or ns j e within in
    apart i j d below within (same ∙ sym (get_or_from_slice_get ns j (get_or ns j e) d one))

-- ---- whether a name is in a list

pub has_contains : (c : ℕ) (ns : List ℕ) → contains c ns ≡ true → Contains ns c
has_contains c ns named = contains_from_in (contains_is c ns named)

module _ {X : Type 0} (f : X → ℕ) where
  -- where a list has an element, its name is among the names
  pub contains_name : (xs : List X) (i : ℕ) {x : X} (c : ℕ) → i < length xs → get_or xs i x ≡ x → f x ≡ c → contains c (map f xs) ≡ true
  contains_name [] i c below at named = absurd (omega arith)
  contains_name (y ∷ xs) zero c below at named = let e : (f y == c) ≡ true = eq-eqb (f y) c (ap f at ∙ named) in rw e refl
  contains_name (y ∷ xs) (suc i) {x} c below at named = or_right (f y == c) (contains c (map f xs)) (contains_name xs i c (omega arith) at named)

  -- what holds of all names holds of one of them
  pub all_names : (P : ℕ → Type 0) (xs : List X) (c : ℕ) → All (λ x. P (f x)) xs → contains c (map f xs) ≡ true → P c
  all_names P [] c all named = cc
  all_names P (x ∷ xs) c all named = go (or_cases (f x == c) (contains c (map f xs)) named) (all_names P xs c (All-tail (λ y. P (f y)) x xs all))
    where
      go : ((f x == c) ≡ true) ⊎ (contains c (map f xs) ≡ true) → (contains c (map f xs) ≡ true → P c) → P c
      go (inl is) rest = subst P (eqb-true (f x) c is) (All-head (λ y. P (f y)) x xs all)
      go (inr more) rest = rest more

-- ---- lists that go over into one another

-- two elements at the same place of lists that agree
pub same_at : {X Y Z : Type 0} (f : X → Z) (g : Y → Z) (xs : List X) (ys : List Y) {i : ℕ} (x : X) (y : Y) → map f xs ≡ map g ys → i < length xs →
    x ≡ get_or xs i x → y ≡ get_or ys i y → g y ≡ f x
same_at f g xs ys {i} x y same lt at at' =
    let short : i < length ys = omega (arith, length-map xs f, length-map ys g, ap length same) in
    ap g at' ∙ sym (get_or-map g ys i y (f x) short) ∙ sym (ap (λ l. get_or l i (f x)) same) ∙ get_or-map f xs i x (f x) lt ∙ ap f (sym at)

-- where one of two lists is used up, nothing of them is left
pub nothing_zips : {X Y : Type 0} (xs : List X) (ys : List Y) → (length xs ≡ 0) ⊎ (length ys ≡ 0) → zip xs ys ≡ []
nothing_zips [] ys ends = refl
nothing_zips (x ∷ xs) [] ends = refl
nothing_zips (x ∷ xs) (y ∷ ys) (inl none) = absurd (omega (arith, none))
nothing_zips (x ∷ xs) (y ∷ ys) (inr none) = absurd (omega (arith, none))

-- what holds of the first elements, and of the next one, holds of one more
pub told_next : {X : Type 0} (P : X → Type 0) (xs : List X) (i : ℕ) (x : X) → ((k : ℕ) (d : X) → k < i → P (get_or xs k d)) →
    ((d : X) → get_or xs i d ≡ get_or xs i x) → P (get_or xs i x) → (k : ℕ) (d : X) → k < i + 1 → P (get_or xs k d)
told_next P xs i x before any told k d lt = elim (eq-or-lt_of_le {n = k} {m = i}
    (omega (arith, lt))) [ inl is ↦ subst (λ j. P (get_or xs j d)) (sym is) (subst P (sym (any d)) told) | inr less ↦ before k d less ]

-- an element that is there is the same for all defaults
pub any_default : {X : Type 0} (xs : List X) (i : ℕ) (x : X) → i < length xs → (d : X) → get_or xs i d ≡ get_or xs i x
any_default [] i x lt d = absurd (omega (arith, lt))
any_default (y ∷ xs) zero x lt d = refl
any_default (y ∷ xs) (suc i) x lt d = any_default xs i x (omega arith) d

-- elements at the same place of lists that agree
pub same_place : {X Y : Type 0} (f : X → Y) (xs ys : List X) (i : ℕ) (x : X) → i < length ys → map f xs ≡ map f ys → x ≡ get_or xs i x → f (get_or ys i x) ≡ f x
same_place f xs ys i x lt same at =
    let short : i < length xs = omega (arith, length-map xs f, length-map ys f, ap length same) in
    sym (get_or-map f ys i x (f x) lt) ∙ sym (ap (λ l. get_or l i (f x)) same) ∙ get_or-map f xs i x (f x) short ∙ ap f (sym at)

-- one element goes over from the end of a list to the front of the next
pub append_over : {X : Type 0} (xs : List X) (x : X) (rest : List X) → (xs ++ x ∷ []) ++ rest ≡ xs ++ x ∷ rest
append_over [] x rest = refl
append_over (y ∷ xs) x rest = ap (λ l. y ∷ l) (append_over xs x rest)

-- a place behind a list
pub place_behind : {A : Type 0} (xs ys : List A) (k : ℕ) → slice_get (xs ++ ys) (length xs + k) ≡ slice_get ys k
place_behind [] ys k = let e : 0 + k ≡ k = omega arith in ap (slice_get ys) e
place_behind (x ∷ xs) ys k = let e : length (x ∷ xs) + k ≡ suc (length xs + k) = omega arith in ap (slice_get (x ∷ xs ++ ys)) e ∙ place_behind xs ys k
