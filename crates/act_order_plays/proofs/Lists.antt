-- Laws of lists: what they have, fronts of lists whose items differ, and numbers that pass a test.
use Rattle.act_order_plays.proofs.Common.{◌≡◌, ℕ, zero, suc, ◌+◌, ◌<◌, ◌≤◌, ◌⊎◌, inl, inr, Bool, true, false, cond, List, [], ◌∷◌, ◌++◌, length, filter, Option}
use Rattle.act_order_plays.proofs.Common.{Some, None, slice_get, refl, sym, ap, subst, ◌∙◌, arith, filter_map, cons_option, range_with_len, cases_lt}
use Rattle.act_order_plays.proofs.Common.{append-nil, filter-append, slice_get_within, IsPrefix, slice_get_more, slice_get_front, slice_get_last, front_next}
use Rattle.act_order_plays.proofs.Common.{range_push, element, filter-slice_get, slice_get_pushed, front_whole, IsIn, in_front, in_none}

-- ---- what a list has

-- what a list has, it has with more items behind it, too
pub has_more : {A : Type 0} (xs ys : List A) {x : A} → IsIn xs x → IsIn (xs ++ ys) x
has_more xs ys has = in_front (xs ++ ys) (ys, refl) has

-- a list has the item that was added at its end
pub has_last : {A : Type 0} (xs : List A) (x : A) → IsIn (xs ++ x ∷ []) x
has_last xs x = record { place = length xs; at = slice_get_last xs x }

-- where an item is added at the end, what the list has it had before, or it is that item
pub has_pushed : {A : Type 0} (xs : List A) (y : A) {x : A} → IsIn (xs ++ y ∷ []) x → (IsIn xs x) ⊎ (y ≡ x)
has_pushed xs y {x} has = elim (slice_get_pushed xs y has.place has.at) [ inl h ↦ inl (record { place = has.place; at = h }) | inr h ↦ inr h.1 ]

-- what a filtered list has, the whole list has, and it passes the test
pub filter_has : {A : Type 0} (p : A → Bool) (xs : List A) {x : A} → IsIn (filter p xs) x → IsIn xs x × (p x ≡ true)
filter_has p xs {x} has = let place = filter-slice_get p xs has.place has.at in (record { place = place.place; at = place.at }, place.passes)

-- what an item gives stands among what all give
pub has_filter_map : {A B : Type 0} (f : A → Option B) (xs : List A) {x : A} (y : B) → IsIn xs x → f x ≡ Some y → IsIn (filter_map f xs) y
has_filter_map {A = A} {B = B} f xs {x} y has is = go xs has.place has.at
  where
    later : (o : Option B) (ys : List B) → IsIn ys y → IsIn (cons_option o ys) y
    later None ys h = h
    later (Some z) ys h = record { place = suc h.place; at = h.at }

    go : (xs : List A) (i : ℕ) → slice_get xs i ≡ Some x → IsIn (filter_map f xs) y
    go [] i e = absurd (cc)
    go (z ∷ zs) zero e = let same : z ≡ x = cc in let there : f z ≡ Some y = ap f same ∙ is in
        record { place = zero; at = ap (λ o. slice_get (cons_option o (filter_map f zs)) 0) there }
    go (z ∷ zs) (suc i) e = later (f z) (filter_map f zs) (go zs i e)

-- and what stands among these was given by some item
pub filter_map_has : {A B : Type 0} (f : A → Option B) (xs : List A) {y : B} → IsIn (filter_map f xs) y → (x : A) × IsIn xs x × (f x ≡ Some y)
filter_map_has f [] has = absurd (in_none has)
filter_map_has {A = A} {B = B} f (z ∷ zs) {y} has = go (f z) refl has.place has.at (λ i e. filter_map_has f zs (record { place = i; at = e }))
  where
    later : ((x : A) × IsIn zs x × (f x ≡ Some y)) → ((x : A) × IsIn (z ∷ zs) x × (f x ≡ Some y))
    later r = (r.0, record { place = suc r.1.place; at = r.1.at }, r.2)

    go : (o : Option B) → f z ≡ o → (i : ℕ) → slice_get (cons_option o (filter_map f zs)) i ≡ Some y →
        ((j : ℕ) → slice_get (filter_map f zs) j ≡ Some y → ((x : A) × IsIn zs x × (f x ≡ Some y))) → ((x : A) × IsIn (z ∷ zs) x × (f x ≡ Some y))
    go None is i e rest = later (rest i e)
    go (Some w) is zero e rest = (z, record { place = zero; at = refl }, is ∙ e)
    go (Some w) is (suc i) e rest = later (rest i e)

-- ---- lists whose items differ, and their fronts

-- a number is at most another, or above it
pub cases_le : (m n : ℕ) → (m ≤ n) ⊎ (n < m)
cases_le m n = elim (cases_lt n m) [ inl a ↦ inr a | inr b ↦ inl b ]

-- no item stands at two places
abbrev pub Once : {A : Type 0} → List A → Type 0
Once {A} xs = (i j : ℕ) (x : A) → slice_get xs i ≡ Some x → slice_get xs j ≡ Some x → i ≡ j

-- an item of the list that a front has stands in the front
pub within_front : (xs ys : List ℕ) (i x : ℕ) → Once ys → IsPrefix xs ys → slice_get ys i ≡ Some x → IsIn xs x → i < length xs
within_front xs ys i x differ front at has =
    let same : has.place ≡ i = differ has.place i x (slice_get_front xs ys has.place front has.at) at in
    let short = slice_get_within xs has.place x has.at in omega arith

-- where a front has each item before this one, and not this, it is as long as these
pub front_ends : (xs ys : List ℕ) (i x : ℕ) → Once ys → IsPrefix xs ys → slice_get ys i ≡ Some x → (IsIn xs x → ⊥) →
    ((j y : ℕ) → j < i → slice_get ys j ≡ Some y → IsIn xs y) → length xs ≡ i
front_ends xs ys i x differ front at fresh before = elim (cases_lt (length xs) i) [
  | inl less ↦
      let ends = slice_get_within ys i x at in let one = element ys (length xs) (omega arith) in
      let long = within_front xs ys (length xs) one.0 differ front one.1 (before (length xs) one.0 less one.1) in absurd (omega arith)
  | inr most ↦ elim (cases_le (length xs) i) [
    | inl least ↦ omega arith
    | inr more ↦
        let two = element xs i more in
        let there : slice_get ys i ≡ Some two.0 = slice_get_front xs ys i front two.1 in
        let same : two.0 ≡ x = cc in absurd (fresh (record { place = i; at = two.1 ∙ ap Some same }))
  ]
]

-- such a front grows by this item
pub front_grows : (xs ys : List ℕ) (i x : ℕ) → Once ys → IsPrefix xs ys → slice_get ys i ≡ Some x → (IsIn xs x → ⊥) →
    ((j y : ℕ) → j < i → slice_get ys j ≡ Some y → IsIn xs y) → IsPrefix (xs ++ x ∷ []) ys
front_grows xs ys i x differ front at fresh before =
    front_next xs ys front (subst (λ k. slice_get ys k ≡ Some x) (sym (front_ends xs ys i x differ front at fresh before)) at)

-- a front that has each item is the list
pub front_has_all : (xs ys : List ℕ) → Once ys → IsPrefix xs ys → ((y : ℕ) → IsIn ys y → IsIn xs y) → xs ≡ ys
front_has_all xs ys differ front all = front_whole xs ys front (elim (cases_le (length ys) (length xs)) [
  | inl a ↦ a
  | inr b ↦
      let one = element ys (length xs) b in
      let long = within_front xs ys (length xs) one.0 differ front one.1 (all one.0 (record { place = length xs; at = one.1 })) in absurd (omega arith)
])

-- ---- the numbers below a bound that pass a test

-- the numbers below a bound that pass a test, by rising number
abbrev pub below : (ℕ → Bool) → ℕ → List ℕ
below p n = filter p (range_with_len 0 n)

pub below_more : (p : ℕ → Bool) (n : ℕ) → below p (suc n) ≡ below p n ++ cond (p n) (n ∷ []) []
below_more p n = ap (filter p) (range_push 0 n) ∙ filter-append p (range_with_len 0 n) ((0 + n) ∷ []) ∙ (let z : 0 + n ≡ n = omega arith in rw z refl)

-- a number that passes stands behind the lower ones that pass
pub below_at : (p : ℕ → Bool) (m n : ℕ) → n < m → p n ≡ true → slice_get (below p m) (length (below p n)) ≡ Some n
below_at p zero n lt passes = absurd (omega arith)
below_at p (suc m) n lt passes = rw (below_more p m) (elim (cases_lt n m) [
  | inl a ↦ slice_get_more (below p m) (cond (p m) (m ∷ []) []) (length (below p n)) (below_at p m n a passes)
  | inr b ↦ let same : m ≡ n = omega arith in rw (same, passes) (slice_get_last (below p n) n)
])

-- what stands there passes, is below the bound, and stands behind the lower ones
pub record IsBelow (p : ℕ → Bool) (m j n : ℕ) : Type 0 where
  pub less : n < m
  pub passes : p n ≡ true
  pub place : j ≡ length (below p n)

-- what stands among the numbers below a bound that pass a test is one of them, behind just the lower ones
pub below_has : (p : ℕ → Bool) (m j : ℕ) {n : ℕ} → slice_get (below p m) j ≡ Some n → IsBelow p m j n
below_has p zero j e = absurd (cc)
below_has p (suc m) j {n} e = go (p m) refl (rw (below_more p m) at e) (below_has p m j {n = n})
  where
    later : IsBelow p m j n → IsBelow p (suc m) j n
    later r = let less = r.less in record { less = omega arith; passes = r.passes; place = r.place }

    go : (b : Bool) → p m ≡ b → slice_get (below p m ++ cond b (m ∷ []) []) j ≡ Some n → (slice_get (below p m) j ≡ Some n → IsBelow p m j n) →
        IsBelow p (suc m) j n
    go false is e rest = later (rest (rw (append-nil (below p m)) at e))
    go true is e rest = elim (slice_get_pushed (below p m) m j e) [
      | inl h ↦ later (rest h)
      | inr h ↦ record { less = omega (arith, h.1); passes = ap p (sym h.1) ∙ is; place = h.0 ∙ ap (λ k. length (below p k)) h.1 }
    ]

-- no number stands twice among those below a bound that pass a test
pub below_differ : (p : ℕ → Bool) (m : ℕ) → Once (below p m)
below_differ p m i j x one two = (below_has p m i one).place ∙ sym (below_has p m j two).place
