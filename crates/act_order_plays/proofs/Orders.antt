-- An order of what comes true along states: what comes true at each of them, one after the other.
use Rattle.act_order_plays.proofs.Common.{◌≡◌, ℕ, zero, suc, ◌&&◌, ◌⊎◌, inl, inr, Bool, true, false, List, [], ◌∷◌, ◌++◌, filter, map, take, Some, slice_get}
use Rattle.act_order_plays.proofs.Common.{refl, sym, ap, subst, ◌∙◌, arith, cond, not, and_parts, not-true, map-slice_get, false_from_ne_true}
use Rattle.act_order_plays.proofs.Common.{get_taken, IsIn, in_behind, in_filter, in_none}
use Rattle.act_order_plays.proofs.Lists.{filter_has, Once, has_more}

-- ---- lists of which no item stands twice

once_tail : {A : Type 0} (y : A) (xs : List A) → Once (y ∷ xs) → Once xs
once_tail y xs once i j x at there = let e : suc i ≡ suc j = once (suc i) (suc j) x at there in omega arith

once_of : {A : Type 0} (y : A) (xs : List A) → (IsIn xs y → ⊥) → Once xs → Once (y ∷ xs)
once_of y xs fresh rest zero zero x at there = refl
once_of y xs fresh rest zero (suc j) x at there = absurd (fresh (record { place = j; at = there ∙ sym at }))
once_of y xs fresh rest (suc i) zero x at there = absurd (fresh (record { place = i; at = at ∙ sym there }))
once_of y xs fresh rest (suc i) (suc j) x at there = ap (λ k. suc k) (rest i j x at there)

once_head : {A : Type 0} (y : A) (xs : List A) → Once (y ∷ xs) → IsIn xs y → ⊥
once_head y xs once has = let e : 0 ≡ suc has.place = once 0 (suc has.place) y refl has.at in omega arith

pub once_filter : {A : Type 0} (p : A → Bool) (xs : List A) → Once xs → Once (filter p xs)
once_filter p [] once = once
once_filter {A = A} p (y ∷ xs) once = go (p y) (once_filter p xs (once_tail y xs once))
  where
    go : (b : Bool) → Once (filter p xs) → Once (cond b (y ∷ filter p xs) (filter p xs))
    go true rest = once_of y (filter p xs) (λ has. once_head y xs once (filter_has p xs has).0) rest
    go false rest = rest

pub once_map : {A B : Type 0} (f : A → B) (xs : List A) → ((x y : A) → f x ≡ f y → x ≡ y) → Once xs → Once (map f xs)
once_map f xs apart once i j y at there =
    let one = map-slice_get f xs i at in let two = map-slice_get f xs j there in let same = apart two.0 one.0 (two.2 ∙ sym one.2) in
    once i j one.0 one.1 (two.1 ∙ ap Some same)

-- ---- two lists, one after the other

pub has_either : {A : Type 0} (xs ys : List A) (y : A) → IsIn (xs ++ ys) y → (IsIn xs y) ⊎ (IsIn ys y)
has_either {A = A} xs ys y has = go xs has.place has.at
  where
    go : (xs : List A) (i : ℕ) → slice_get (xs ++ ys) i ≡ Some y → (IsIn xs y) ⊎ (IsIn ys y)
    go [] i at = inr (record { place = i; at = at })
    go (x ∷ xs) zero at = inl (record { place = zero; at = at })
    go (x ∷ xs) (suc i) at = elim (go xs i at) [ inl h ↦ inl (record { place = suc h.place; at = h.at }) | inr h ↦ inr h ]

pub once_append : {A : Type 0} (xs ys : List A) → Once xs → Once ys → ((x : A) → IsIn xs x → IsIn ys x → ⊥) → Once (xs ++ ys)
once_append [] ys first second apart = second
once_append (x ∷ xs) ys first second apart =
    once_of x (xs ++ ys)
    (λ has. elim (has_either xs ys x has) [ inl h ↦ once_head x xs first h | inr h ↦ apart x (record { place = zero; at = refl }) h ])
    (once_append xs ys (once_tail x xs first) second (λ y one two. apart y (record { place = suc one.place; at = one.at }) two))

-- what stands at a place stands in the first list, or in the second behind all of the first
pub record IsSecond {A : Type 0} (xs ys : List A) (i : ℕ) (x : A) : Type 0 where
  pub place : ℕ
  pub at : slice_get ys place ≡ Some x
  pub before : take i (xs ++ ys) ≡ xs ++ take place ys

pub get_either : {A : Type 0} (xs ys : List A) (i : ℕ) (x : A) → slice_get (xs ++ ys) i ≡ Some x →
    ((slice_get xs i ≡ Some x) × (take i (xs ++ ys) ≡ take i xs)) ⊎ (IsSecond xs ys i x)
get_either [] ys i x at = inr (record { place = i; at = at; before = refl })
get_either (y ∷ xs) ys zero x at = inl (at, refl)
get_either (y ∷ xs) ys (suc i) x at = elim (get_either xs ys i x at) [
  | inl h ↦ inl (h.0, ap (λ l. y ∷ l) h.1)
  | inr h ↦ inr (record { place = h.place; at = h.at; before = ap (λ l. y ∷ l) h.before })
]

-- ---- the order

-- from a test that is both false and true, anything follows
pub not_both : {A : Type 0} {b : Bool} → b ≡ false → b ≡ true → A
not_both f t = absurd (cc)

module _ {S X : Type 0} (has : S → X → Bool) (every : List X) where
  abbrev pub is_new : S → S → X → Bool
  is_new s t x = not (has s x) && has t x

  abbrev pub order_from : S → List S → List X
  order_from s [] = []
  order_from s (t ∷ ts) = filter (is_new s t) every ++ order_from t ts

  -- the last of an item and those behind it
  abbrev pub last_of : S → List S → S
  last_of s [] = s
  last_of s (t ∷ ts) = last_of t ts

  -- what is true stays so
  abbrev pub Lasts : S → List S → Type 0
  Lasts s [] = Unit {0}
  Lasts s (t ∷ ts) = ((x : X) → has s x ≡ true → has t x ≡ true) × Lasts t ts

  -- x comes true only where y is true
  abbrev pub Before : X → X → S → List S → Type 0
  Before y x s [] = Unit {0}
  Before y x s (t ∷ ts) = (has s x ≡ false → has t x ≡ true → has s y ≡ true) × Before y x t ts

  new_of : (s t : S) (x : X) → has s x ≡ false → has t x ≡ true → is_new s t x ≡ true
  new_of s t x f e = rw (f, e) refl

  new_is : (s t : S) (x : X) → is_new s t x ≡ true → (has s x ≡ false) × (has t x ≡ true)
  new_is s t x new = let parts = and_parts (not (has s x)) (has t x) new in (not-true (has s x) parts.0, parts.1)

  pub order_has : (s : S) (ts : List S) (x : X) → IsIn every x → has s x ≡ false → has (last_of s ts) x ≡ true → IsIn (order_from s ts) x
  order_has s [] x there f e = not_both f e
  order_has s (t ∷ ts) x there f e = go (has t x) refl (λ no_yet. order_has t ts x there no_yet e)
    where
      go : (b : Bool) → has t x ≡ b → (has t x ≡ false → IsIn (order_from t ts) x) → IsIn (filter (is_new s t) every ++ order_from t ts) x
      go true now rest = has_more (filter (is_new s t) every) (order_from t ts) (in_filter (is_new s t) there (new_of s t x f now))
      go false now rest = in_behind (filter (is_new s t) every) (order_from t ts) (rest now)

  stays_false : (s t : S) (x : X) → ((x : X) → has s x ≡ true → has t x ≡ true) → has t x ≡ false → has s x ≡ false
  stays_false s t x lasts f = false_from_ne_true (has s x) (λ e. not_both f (lasts x e))

  -- all in it is among these, and comes true later
  pub order_only : (s : S) (ts : List S) (x : X) → Lasts s ts → IsIn (order_from s ts) x → IsIn every x × (has s x ≡ false)
  order_only s [] x lasts there = absurd (in_none there)
  order_only s (t ∷ ts) x lasts there = elim (has_either (filter (is_new s t) every) (order_from t ts) x there) [
    | inl h ↦ let r = filter_has (is_new s t) every h in (r.0, (new_is s t x r.1).0)
    | inr h ↦ let r = order_only t ts x lasts.1 h in (r.0, stays_false s t x lasts.0 r.1)
  ]

  pub order_once : (s : S) (ts : List S) → Once every → Lasts s ts → Once (order_from s ts)
  order_once s [] once lasts = λ i j x at there. absurd (cc)
  order_once s (t ∷ ts) once lasts =
      once_append (filter (is_new s t) every) (order_from t ts) (once_filter (is_new s t) every once) (order_once t ts once lasts.1)
      (λ x one two. not_both (order_only t ts x lasts.1 two).1 (new_is s t x (filter_has (is_new s t) every one).1).1)

  pub order_fresh : (s : S) (ts : List S) (i : ℕ) (x : X) → Once every → Lasts s ts → slice_get (order_from s ts) i ≡ Some x →
      IsIn (take i (order_from s ts)) x → ⊥
  order_fresh s ts i x once lasts at has_it =
      let early = get_taken i (order_from s ts) has_it.place has_it.at in
      let same : has_it.place ≡ i = order_once s ts once lasts has_it.place i x early.1 at in
      let less = early.0 in omega arith

  pub order_after : (s : S) (ts : List S) (i : ℕ) (x y : X) → Lasts s ts → slice_get (order_from s ts) i ≡ Some x → Before y x s ts →
      IsIn every y → has s y ≡ false → IsIn (take i (order_from s ts)) y
  order_after s [] i x y lasts at before there f = absurd (cc)
  order_after s (t ∷ ts) i x y lasts at before there f = elim (get_either (filter (is_new s t) every) (order_from t ts) i x at) [
    | inl h ↦
        let new = new_is s t x (filter_has (is_new s t) every (record { place = i; at = h.0 })).1 in not_both f (before.0 new.0 new.1)
    | inr h ↦ subst (λ l. IsIn l y) (sym h.before) (go h.place (has t y) refl (λ no_yet. order_after t ts h.place x y lasts.1 h.at before.1 there no_yet))
  ]
    where
      go : (j : ℕ) → (b : Bool) → has t y ≡ b → (has t y ≡ false → IsIn (take j (order_from t ts)) y) →
          IsIn (filter (is_new s t) every ++ take j (order_from t ts)) y
      go j true e rest = has_more (filter (is_new s t) every) (take j (order_from t ts)) (in_filter (is_new s t) there (new_of s t y f e))
      go j false e rest = in_behind (filter (is_new s t) every) (take j (order_from t ts)) (rest e)
