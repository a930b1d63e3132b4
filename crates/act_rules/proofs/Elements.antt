-- Elements of lists by their places, and look-ups.
use Rattle.act_rules.proofs.Common.{◌≡◌, ℕ, zero, suc, ◌+◌, ◌<◌, ◌==◌, ◌||◌, Bool, true, false, cond, List, [], ◌∷◌, ◌++◌, length, Some, None, refl, ap, sym}
use Rattle.act_rules.proofs.Common.{◌∙◌, subst, arith, inl, inr, ◌⊎◌, map, filter, find, slice_get, All, Contains, list_any, range_with_len, enumerate_from}
use Rattle.act_rules.proofs.Common.{eq-eqb, eqb-true, slice_get-get_or, slice_get_within, IsPrefix, contains, get_or-map, length-map, All-contains}
use Rattle.act_rules.proofs.Common.{slice_get_read, get_or_from_slice_get}
use Rattle.act_rules.proofs.Common.{AllByRecursion, option_map, slice_get-map}
use Rattle.act_rules.proofs.Lists.{All_at, slice_get-filter, slice_get_front}
use Rattle.std.proofs.lemmas.Map.Keys.{any_passes_from_place}

-- x stands in xs
pub record IsIn {A : Type 0} (xs : List A) (x : A) : Type 0 where
  pub place : ℕ
  pub at : slice_get xs place ≡ Some x

-- what is contained in a list stands at a place of it
pub in_from_contains : {A : Type 0} (xs : List A) (x : A) → Contains xs x → IsIn xs x
in_from_contains xs x c = record { place = c.0; at = slice_get_read xs (length xs) c.0 x refl c.1 (sym c.2) }

-- what stands in a list is contained in it
pub contains_from_in : {A : Type 0} {xs : List A} {x : A} → IsIn xs x → Contains xs x
contains_from_in {xs} {x} i = (i.place, slice_get_within xs i.place x i.at, get_or_from_slice_get xs i.place x x i.at)

-- what holds of all holds of one that stands there
pub all_in : {A : Type 0} (P : A → Type 0) {xs : List A} {x : A} → All P xs → IsIn xs x → P x
all_in P {xs} {x} all i = All-contains P xs x all (contains_from_in i)

-- what stands in a list and passes stands in the filtered list
pub in_filter : {A : Type 0} (p : A → Bool) {xs : List A} {x : A} → IsIn xs x → p x ≡ true → IsIn (filter p xs) x
in_filter p {xs} {x} i passes = record { place = _; at = slice_get-filter p xs i.place i.at passes }

-- what stands in a front stands in the whole
pub in_front : {A : Type 0} {xs : List A} (ys : List A) {x : A} → IsPrefix xs ys → IsIn xs x → IsIn ys x
in_front {xs} ys {x} f i = record { place = i.place; at = slice_get_front xs ys i.place f i.at }

-- what stands in a list is mapped to what stands in the mapped list
pub in_map : {A B : Type 0} (f : A → B) {xs : List A} {x : A} → IsIn xs x → IsIn (map f xs) (f x)
in_map f {xs} {x} i = record { place = i.place; at = slice_get-map f xs i.place ∙ ap (option_map f) i.at }

-- what stands in a list still does with more before it
pub in_behind : {A : Type 0} (xs ys : List A) {x : A} → IsIn ys x → IsIn (xs ++ ys) x
in_behind [] ys i = i
in_behind (y ∷ xs) ys {x} i = let more = in_behind xs ys i in record { place = suc more.place; at = more.at }

-- where one that stands in a list passes, one of the list does
pub any_in : {A : Type 0} (p : A → Bool) {xs : List A} {x : A} → IsIn xs x → p x ≡ true → list_any p xs ≡ true
any_in p {xs} {x} i passes = any_passes_from_place p xs i.place x i.at passes

-- what holds of the item at each place holds of all items
pub all_by_places : {A : Type 0} (P : A → Type 0) (xs : List A) → ((k : ℕ) (x : A) → slice_get xs k ≡ Some x → P x) → All P xs
all_by_places P xs f k d below = f k _ (slice_get-get_or xs k d below)

-- what holds of all that a list is mapped to
pub all_of_map : {X Y : Type 0} (P : Y → Type 0) (f : X → Y) (xs : List X) → All P (map f xs) → All (λ x. P (f x)) xs
all_of_map P f xs all k d within = subst P (get_or-map f xs k d (f d) within) (all k (f d) (omega (arith, length-map xs f)))

-- a list whose elements stand at the same places of another is its front
pub front_by_places : {A : Type 0} (xs ys : List A) → ((k : ℕ) (x : A) → slice_get xs k ≡ Some x → slice_get ys k ≡ Some x) → IsPrefix xs ys
front_by_places [] ys f = (ys, refl)
front_by_places (x ∷ xs) [] f = let bad : None ≡ Some x = f 0 x refl in cc
front_by_places {A = A} (x ∷ xs) (y ∷ ys) f =
    let is : Some y ≡ Some x = f 0 x refl in let same : x ≡ y = cc in
    let rest : IsPrefix xs ys = front_by_places xs ys (λ k z e. f (suc k) z e) in (rest.0, ap (λ z. z ∷ xs ++ rest.0) same ∙ ap (λ l. y ∷ l) rest.1)

-- the number at place k of a range is its first number and k more
pub range_at : (from n k : ℕ) {m : ℕ} → slice_get (range_with_len from n) k ≡ Some m → m ≡ from + k
range_at from zero k e = cc
range_at from (suc n) zero {m} e = let same : from ≡ m = cc in omega arith
range_at from (suc n) (suc k) {m} e = let more : m ≡ (from + 1) + k = range_at (from + 1) n k e in omega arith

-- ---- look-ups

pub record IsFound {A : Type 0} (p : A → Bool) (xs : List A) (x : A) : Type 0 where
  pub inside : IsIn xs x
  pub passes : p x ≡ true

-- what `find` gives stands in the list, and passes
pub found_is : {A : Type 0} (p : A → Bool) (xs : List A) {x : A} → find p xs ≡ Some x → IsFound p xs x
found_is p [] e = cc
found_is {A = A} p (y ∷ xs) {x} e = go (p y) refl (found_is p xs {x = x}) e
  where
    later : IsFound p xs x → IsFound p (y ∷ xs) x
    later r = record { inside = record { place = suc r.inside.place; at = r.inside.at }; passes = r.passes }

    go : (b : Bool) → p y ≡ b → (find p xs ≡ Some x → IsFound p xs x) → cond b (Some y) (find p xs) ≡ Some x → IsFound p (y ∷ xs) x
    go true is rest e = let same : y ≡ x = cc in record { inside = record { place = 0; at = e }; passes = subst (λ z. p z ≡ true) same is }
    go false is rest e = later (rest e)

-- what is found passes
pub found_passes : {A : Type 0} (p : A → Bool) (xs : List A) {x : A} → find p xs ≡ Some x → p x ≡ true
found_passes p xs e = (found_is p xs e).passes

pub record Finds {A : Type 0} (p : A → Bool) (xs : List A) : Type 0 where
  pub one : A
  pub is : find p xs ≡ Some one

-- where one passes, one is found
pub finds : {A : Type 0} (p : A → Bool) (xs : List A) (k : ℕ) (x : A) → slice_get xs k ≡ Some x → p x ≡ true → Finds p xs
finds p [] k x e passes = cc
finds {A = A} p (y ∷ xs) k x e passes = go (p y) refl k (λ j f. finds p xs j x f passes) e
  where
    go : (b : Bool) → p y ≡ b → (k : ℕ) → ((j : ℕ) → slice_get xs j ≡ Some x → Finds p xs) → slice_get (y ∷ xs) k ≡ Some x → Finds p (y ∷ xs)
    go true is k rest e = record { one = y; is = ap (λ b. cond b (Some y) (find p xs)) is }
    go false is zero rest e = let same : y ≡ x = cc in let bad : p y ≡ true = ap p same ∙ passes in cc
    go false is (suc k) rest e = let r = rest k e in record { one = r.one; is = ap (λ b. cond b (Some y) (find p xs)) is ∙ r.is }

-- an element that passes in a list, from `list_any`
pub any_is : {A : Type 0} (p : A → Bool) (xs : List A) → list_any p xs ≡ true → (x : A) × IsFound p xs x
any_is p [] e = cc
any_is {A = A} p (y ∷ xs) e = go (p y) refl (any_is p xs) e
  where
    go : (b : Bool) → p y ≡ b → (list_any p xs ≡ true → (x : A) × IsFound p xs x) → (b || list_any p xs) ≡ true → (x : A) × IsFound p (y ∷ xs) x
    go true is rest e = (y, record { inside = record { place = 0; at = refl }; passes = is })
    go false is rest e = let r = rest e in (r.0, record { inside = record { place = suc r.1.inside.place; at = r.1.inside.at }; passes = r.1.passes })

-- a number of a list, and `contains`
pub contains_is : (n : ℕ) (ns : List ℕ) → contains n ns ≡ true → IsIn ns n
contains_is n ns e = let r = any_is (λ m. m == n) ns e in subst (IsIn ns) (eqb-true r.0 n r.1.passes) r.1.inside

-- of a number that stands in a list `contains` is true
pub is_contained : (n : ℕ) (ns : List ℕ) → IsIn ns n → contains n ns ≡ true
is_contained n ns i = any_in (λ m. m == n) i (eq-eqb n n refl)

-- what holds of each number of a list holds of any that the list contains
pub all_listed : (P : ℕ → Type 0) (xs : List ℕ) (x : ℕ) → AllByRecursion P xs → contains x xs ≡ true → P x
all_listed P xs x all e = let i = contains_is x xs e in All_at P xs i.place all i.at

-- a list with nothing at any place is empty
pub empty_by_places : {A : Type 0} (xs : List A) → ((k : ℕ) (x : A) → slice_get xs k ≡ Some x → ⊥) → xs ≡ []
empty_by_places [] f = refl
empty_by_places (x ∷ xs) f = absurd (f 0 x refl)

-- an enumerated list without its numbers is the list
pub enumerated : {A : Type 0} (n : ℕ) (xs : List A) → map (λ (pair : ℕ × A). pair.1) (enumerate_from n xs) ≡ xs
enumerated n [] = refl
enumerated {A = A} n (x ∷ xs) = ap (λ l. x ∷ l) (enumerated (n + 1) xs)

-- nothing stands in an empty list
pub in_none : {A : Type 0} {x : A} → IsIn [] x → ⊥
in_none {x} i = let bad : None ≡ Some x = i.at in cc

-- the first of a list, or one behind it
pub in_first : {A : Type 0} (y : A) {x : A} (ys : List A) (k : ℕ) → slice_get (y ∷ ys) k ≡ Some x → (y ≡ x) ⊎ IsIn ys x
in_first y ys zero e = inl (cc)
in_first y ys (suc k) e = inr (record { place = k; at = e })

pub some_long : {A : Type 0} (xs : List A) (x : A) → IsIn xs x → 0 < length xs
some_long [] x i = absurd (in_none i)
some_long (y ∷ xs) x i = omega arith
