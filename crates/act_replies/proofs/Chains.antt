-- The links stay right as a future enters, and as one waits no more.
use Rattle.act_replies.proofs.Common.{◌≡◌, ◌≢◌, ℕ, ◌<◌, ◌≤◌, ◌⊎◌, List, [], ◌∷◌, ◌++◌, length, Option, Some, None, inl, inr, refl, sym, ◌∙◌, ap, subst, arith}
use Rattle.act_replies.proofs.Common.{slice_set, cases_lt, cases_order, get_or-set_same, get_or-set_other, length-set, length-append, get_or-append}
use Rattle.act_replies.proofs.Common.{get_or-eq_default, get_or-append_seam, found_at, with_found, IsLastBelow, IsFirstAbove, IsChained}

-- ---- what stands in a list

-- a future that waits is one of the list
pub within : (w : List (Option ℕ)) (j a : ℕ) → found_at w j ≡ Some a → j < length w
within w j a waits =
    elim (cases_lt j (length w)) [
      | inl below ↦ below
      | inr past ↦ let none : found_at w j ≡ None = get_or-eq_default w None past in absurd (cc (none, waits))
    ]

cases_found : (o : Option ℕ) (j : ℕ) → (o ≡ Some j) ⊎ (o ≢ Some j)
cases_found None j = inr (λ same. cc same)
cases_found (Some k) j =
    elim (cases_order k j) [
      | inl e ↦ inl (ap Some e)
      | inr apart ↦ inr (λ same. let e : k ≡ j = cc same in elim apart [ inl l ↦ omega (arith, e, l) | inr g ↦ omega (arith, e, g) ])
    ]

found_hit : (xs : List (Option ℕ)) (o x : Option ℕ) (j : ℕ) → o ≡ Some j → j < length xs → found_at (with_found xs o x) j ≡ x
found_hit xs o x j here below = rw here (get_or-set_same xs j x None below)

found_miss : (xs : List (Option ℕ)) (o x : Option ℕ) (j : ℕ) → o ≢ Some j → found_at (with_found xs o x) j ≡ found_at xs j
found_miss xs None x j other = refl
found_miss xs (Some k) x j other = get_or-set_other xs k j x None (λ e. other (ap Some (sym e)))

pub length-with_found : (xs : List (Option ℕ)) (o x : Option ℕ) → length (with_found xs o x) ≡ length xs
length-with_found xs None x = refl
length-with_found xs (Some k) x = length-set xs k x

apart_from : {j k : ℕ} → (j < k) ⊎ (k < j) → j ≢ k
apart_from (inl l) e = omega (arith, e, l)
apart_from (inr g) e = omega (arith, e, g)

-- ---- neighbours

-- what stands before a future is followed by it
follows : (w : List (Option ℕ)) (k j a : ℕ) (f : Option ℕ) → IsLastBelow w a j (Some k) → found_at w j ≡ Some a → IsFirstAbove w a k f → f ≡ Some j
follows w k j a None before here above = absurd (above j before.0 here)
follows w k j a (Some f) before here above =
    elim (cases_order f j) [
      | inl e ↦ ap Some e
      | inr apart ↦ elim apart [ inl l ↦ absurd (before.2 f above.0 l above.1) | inr g ↦ absurd (above.2 j before.0 g here) ]
    ]

precedes : (w : List (Option ℕ)) (k j a : ℕ) (b : Option ℕ) → IsFirstAbove w a j (Some k) → found_at w j ≡ Some a → IsLastBelow w a k b → b ≡ Some j
precedes w k j a None above here before = absurd (before j above.0 here)
precedes w k j a (Some b) above here before =
    elim (cases_order b j) [
      | inl e ↦ ap Some e
      | inr apart ↦ elim apart [ inl l ↦ absurd (before.2 j l above.0 here) | inr g ↦ absurd (above.2 b g before.0 before.1) ]
    ]

-- nothing stands after the last one, and what nothing stands after is the last one
none_after_last : (w : List (Option ℕ)) (k a : ℕ) (f : Option ℕ) → IsLastBelow w a (length w) (Some k) → IsFirstAbove w a k f → f ≡ None
none_after_last w k a None last above = refl
none_after_last w k a (Some f) last above = absurd (last.2 f above.0 (within w f a above.1) above.1)

last_where_none_after : (w : List (Option ℕ)) (k a : ℕ) (o : Option ℕ) → found_at w k ≡ Some a → IsFirstAbove w a k None → IsLastBelow w a (length w) o →
    o ≡ Some k
last_where_none_after w k a None here none last = absurd (last k (within w k a here) here)
last_where_none_after w k a (Some m) here none last =
    elim (cases_order m k) [
      | inl e ↦ ap Some e
      | inr apart ↦ elim apart [ inl l ↦ absurd (last.2 k l (within w k a here) here) | inr g ↦ absurd (none m g last.1) ]
    ]

-- ---- one waits no more

record IsWithout (w w2 : List (Option ℕ)) (k : ℕ) : Type 0 where
  pub gone : found_at w2 k ≡ None
  pub others : (j : ℕ) → j ≢ k → found_at w2 j ≡ found_at w j

fewer : (w w2 : List (Option ℕ)) (k : ℕ) → IsWithout w w2 k → (j a : ℕ) → found_at w j ≢ Some a → found_at w2 j ≢ Some a
fewer w w2 k without j a absent waits =
    elim (cases_order j k) [
      | inl e ↦ let none : found_at w2 j ≡ None = ap (found_at w2) e ∙ without.gone in cc (none, waits)
      | inr apart ↦ absent (sym (without.others j (apart_from apart)) ∙ waits)
    ]

-- nothing waits on either side of a future that is gone
fewer_around : (w w2 : List (Option ℕ)) (k : ℕ) → IsWithout w w2 k → (j a : ℕ) → (j < k → found_at w j ≢ Some a) → (k < j → found_at w j ≢ Some a) →
    found_at w2 j ≢ Some a
fewer_around w w2 k without j a below above waits =
    elim (cases_order j k) [
      | inl e ↦ let none : found_at w2 j ≡ None = ap (found_at w2) e ∙ without.gone in cc (none, waits)
      | inr apart ↦ elim apart [ inl l ↦ fewer w w2 k without j a (below l) waits | inr g ↦ fewer w w2 k without j a (above g) waits ]
    ]

below_stays : (w w2 : List (Option ℕ)) (k a n : ℕ) (o : Option ℕ) → IsWithout w w2 k → IsLastBelow w a n o → o ≢ Some k → IsLastBelow w2 a n o
below_stays w w2 k a n None without last other = λ j below. fewer w w2 k without j a (last j below)
below_stays w w2 k a n (Some m) without last other =
    (last.0, without.others m (λ e. other (ap Some e)) ∙ last.1, λ j l r. fewer w w2 k without j a (last.2 j l r))

above_stays : (w w2 : List (Option ℕ)) (k a n : ℕ) (o : Option ℕ) → IsWithout w w2 k → IsFirstAbove w a n o → o ≢ Some k → IsFirstAbove w2 a n o
above_stays w w2 k a n None without first other = λ j above. fewer w w2 k without j a (first j above)
above_stays w w2 k a n (Some m) without first other =
    (first.0, without.others m (λ e. other (ap Some e)) ∙ first.1, λ j l r. fewer w w2 k without j a (first.2 j l r))

-- what stood before it stands before what comes next
below_skips : (w w2 : List (Option ℕ)) (k a : ℕ) {n : ℕ} (o : Option ℕ) → IsWithout w w2 k → IsLastBelow w a k o → k < n →
    ((j : ℕ) → k < j → j < n → found_at w j ≢ Some a) → IsLastBelow w2 a n o
below_skips w w2 k a None without last under none = λ j below. fewer_around w w2 k without j a (λ l. last j l) (λ g. none j g below)
below_skips w w2 k a (Some m) without last under none = (
  omega (arith, last.0),
  without.others m (apart_from (inl last.0)) ∙ last.1,
  λ j l r. fewer_around w w2 k without j a (λ under_k. last.2 j l under_k) (λ g. none j g r),
)

above_skips : (w w2 : List (Option ℕ)) (k a n : ℕ) (o : Option ℕ) → IsWithout w w2 k → IsFirstAbove w a k o → n < k →
    ((j : ℕ) → n < j → j < k → found_at w j ≢ Some a) → IsFirstAbove w2 a n o
above_skips w w2 k a n None without first over none = λ j above. fewer_around w w2 k without j a (λ l. none j above l) (λ g. first j g)
above_skips w w2 k a n (Some m) without first over none = (
  omega (arith, first.0),
  without.others m (apart_from (inr first.0)) ∙ first.1,
  λ j l r. fewer_around w w2 k without j a (λ under_k. none j l under_k) (λ g. first.2 j g r),
)

without_one : (w : List (Option ℕ)) (k a : ℕ) → found_at w k ≡ Some a → IsWithout w (slice_set w k None) k
without_one w k a here = record { gone = get_or-set_same w k None None (within w k a here); others = λ j other. get_or-set_other w k j None None other }

removed_before : (w : List (Option ℕ)) {before : List (Option ℕ)} (after : List (Option ℕ)) {last : List (Option ℕ)} (k a : ℕ) (b f : Option ℕ) →
    IsChained w before after last → length before ≡ length w → found_at w k ≡ Some a → b ≡ found_at before k → f ≡ found_at after k → (j x : ℕ) →
    found_at (slice_set w k None) j ≡ Some x → IsLastBelow (slice_set w k None) x j (found_at (with_found before f b) j)
removed_before w {before} after k a b f fine same here b_is f_is j x waits =
    let w2 = slice_set w k None in let without = without_one w k a here in
    let other : j ≢ k = λ e. let none : found_at w2 j ≡ None = ap (found_at w2) e ∙ without.gone in cc (none, waits) in
    let waited : found_at w j ≡ Some x = sym (without.others j other) ∙ waits in
    let first : IsFirstAbove w a k f = subst (IsFirstAbove w a k) (sym f_is) (fine.afters k a here) in
    let last_one : IsLastBelow w a k b = subst (IsLastBelow w a k) (sym b_is) (fine.befores k a here) in
    elim (cases_found f j) [
      | inl hit ↦
          let at_j : IsFirstAbove w a k (Some j) = subst (IsFirstAbove w a k) hit first in
          let actor : a ≡ x = let e : Some a ≡ Some x = sym at_j.1 ∙ waited in cc e in
          subst (IsLastBelow w2 x j) (sym (found_hit before f b j hit (subst (λ n. j < n) (sym same) (within w j x waited))))
          (subst (λ y. IsLastBelow w2 y j b) actor (below_skips w w2 k a b without last_one at_j.0 at_j.2))
      | inr miss ↦
          subst (IsLastBelow w2 x j) (sym (found_miss before f b j miss))
          (below_stays w w2 k x j (found_at before j) without (fine.befores j x waited) (λ e. let before_j : IsLastBelow w x j (Some k) = subst (IsLastBelow w x
          j) e (fine.befores j x waited) in miss (f_is ∙ follows w k j x (found_at after k) before_j waited (fine.afters k x before_j.1))))
    ]

removed_after : (w : List (Option ℕ)) {before : List (Option ℕ)} (after : List (Option ℕ)) {last : List (Option ℕ)} (k a : ℕ) (b f : Option ℕ) →
    IsChained w before after last → length after ≡ length w → found_at w k ≡ Some a → b ≡ found_at before k → f ≡ found_at after k → (j x : ℕ) →
    found_at (slice_set w k None) j ≡ Some x → IsFirstAbove (slice_set w k None) x j (found_at (with_found after b f) j)
removed_after w {before} after k a b f fine same here b_is f_is j x waits =
    let w2 = slice_set w k None in let without = without_one w k a here in
    let other : j ≢ k = λ e. let none : found_at w2 j ≡ None = ap (found_at w2) e ∙ without.gone in cc (none, waits) in
    let waited : found_at w j ≡ Some x = sym (without.others j other) ∙ waits in
    let first : IsFirstAbove w a k f = subst (IsFirstAbove w a k) (sym f_is) (fine.afters k a here) in
    let last_one : IsLastBelow w a k b = subst (IsLastBelow w a k) (sym b_is) (fine.befores k a here) in
    elim (cases_found b j) [
      | inl hit ↦
          let at_j : IsLastBelow w a k (Some j) = subst (IsLastBelow w a k) hit last_one in
          let actor : a ≡ x = let e : Some a ≡ Some x = sym at_j.1 ∙ waited in cc e in
          subst (IsFirstAbove w2 x j) (sym (found_hit after b f j hit (subst (λ n. j < n) (sym same) (within w j x waited))))
          (subst (λ y. IsFirstAbove w2 y j f) actor (above_skips w w2 k a j f without first at_j.0 at_j.2))
      | inr miss ↦
          subst (IsFirstAbove w2 x j) (sym (found_miss after b f j miss))
          (above_stays w w2 k x j (found_at after j) without (fine.afters j x waited) (λ e. let after_j : IsFirstAbove w x j (Some k) = subst (IsFirstAbove w x
          j) e (fine.afters j x waited) in miss (b_is ∙ precedes w k j x (found_at before k) after_j waited (fine.befores k x after_j.1))))
    ]

-- the last future of its actor waits no more
pub removed_last : {w before after : List (Option ℕ)} (last : List (Option ℕ)) (k a : ℕ) (b f : Option ℕ) → IsChained w before after last →
    length before ≡ length w → length after ≡ length w → a < length last → found_at w k ≡ Some a → b ≡ found_at before k → f ≡ found_at after k → f ≡ None →
    IsChained (slice_set w k None) (with_found before f b) (with_found after b f) (slice_set last a b)
removed_last {w} {before} {after} last k a b f fine as_many as_many2 listed here b_is f_is none =
    let w2 = slice_set w k None in let without = without_one w k a here in let gone : Option ℕ = None in
    let last_one : IsLastBelow w a k b = subst (IsLastBelow w a k) (sym b_is) (fine.befores k a here) in
    let first : IsFirstAbove w a k None = subst (IsFirstAbove w a k) (sym f_is ∙ none) (fine.afters k a here) in
    record {
      ends = λ x valid. rw (length-set w k gone)
          (elim (cases_order x a) [
            | inl e ↦
                subst (λ y. IsLastBelow w2 y (length w) (found_at (slice_set last a b) y)) (sym e)
                (subst (IsLastBelow w2 a (length w)) (sym (get_or-set_same last a b None listed))
                (below_skips w w2 k a b without last_one (within w k a here) (λ j g l. first j g)))
            | inr apart ↦
                subst (IsLastBelow w2 x (length w)) (sym (get_or-set_other last a x b None (apart_from apart)))
                (below_stays w w2 k x (length w) (found_at last x) without (fine.ends x valid) (λ e. let last_x : IsLastBelow w x (length w) (Some k) =
                subst (IsLastBelow w x (length w)) e (fine.ends x valid) in let same : Some x ≡ Some a = sym last_x.1 ∙ here in apart_from apart (cc same)))
          ]);
      befores = removed_before w after k a b f fine as_many here b_is f_is;
      afters = removed_after w after k a b f fine as_many2 here b_is f_is;
    }

-- another one waits no more
pub removed_inner : {w before after : List (Option ℕ)} (last : List (Option ℕ)) (k a : ℕ) (b f : Option ℕ) → IsChained w before after last →
    length before ≡ length w → length after ≡ length w → found_at w k ≡ Some a → b ≡ found_at before k → f ≡ found_at after k → f ≢ None →
    IsChained (slice_set w k None) (with_found before f b) (with_found after b f) last
removed_inner {w} {before} {after} last k a b f fine as_many as_many2 here b_is f_is some =
    let w2 = slice_set w k None in let without = without_one w k a here in let gone : Option ℕ = None in
    record {
      ends = λ x valid. rw (length-set w k gone) (below_stays w w2 k x (length w) (found_at last x) without (fine.ends x valid)
          (λ e. let last_x : IsLastBelow w x (length w) (Some k) = subst (IsLastBelow w x (length w)) e (fine.ends x valid) in
          some (f_is ∙ none_after_last w k x (found_at after k) last_x (fine.afters k x last_x.1))));
      befores = removed_before w after k a b f fine as_many here b_is f_is;
      afters = removed_after w after k a b f fine as_many2 here b_is f_is;
    }

-- ---- one more waits

old_place : (w : List (Option ℕ)) (o : Option ℕ) (j : ℕ) → j < length w → found_at (w ++ o ∷ []) j ≡ found_at w j
old_place w o j below = get_or-append w (o ∷ []) None j below

new_place : (w : List (Option ℕ)) (o : Option ℕ) (j : ℕ) → j ≡ length w → found_at (w ++ o ∷ []) j ≡ o
new_place w o j last = ap (found_at (w ++ o ∷ [])) last ∙ get_or-append_seam w o [] None

no_place : (w : List (Option ℕ)) (o : Option ℕ) (j : ℕ) → length w < j → found_at (w ++ o ∷ []) j ≡ None
no_place w o j past = let many : length (w ++ o ∷ []) ≤ j = omega (arith, length-append w (o ∷ [])) in get_or-eq_default (w ++ o ∷ []) None many

below_grows : (w : List (Option ℕ)) (new o : Option ℕ) (a n : ℕ) → n ≤ length w → IsLastBelow w a n o → IsLastBelow (w ++ new ∷ []) a n o
below_grows w new None a n few last = λ j below waits. last j below (sym (old_place w new j (omega (arith, below))) ∙ waits)
below_grows w new (Some k) a n few last =
    (last.0, old_place w new k (omega (arith, last.0)) ∙ last.1, λ j l r waits. last.2 j l r (sym (old_place w new j (omega (arith, r))) ∙ waits))

-- the last of another actor stays the last
other_grows : (w : List (Option ℕ)) (o : Option ℕ) (a x : ℕ) → x ≢ a → IsLastBelow w x (length w) o →
    IsLastBelow (w ++ Some a ∷ []) x (length (w ++ Some a ∷ [])) o
other_grows w None a x other last = λ j below waits.
    elim (cases_lt j (length w)) [
      | inl l ↦ last j l (sym (old_place w (Some a) j l) ∙ waits)
      | inr g ↦
          let here : j ≡ length w = omega (arith, below, length-append w (Some a ∷ [])) in
          let same : Some x ≡ Some a = sym waits ∙ new_place w (Some a) j here in other (cc same)
    ]
other_grows w (Some k) a x other last = (
  omega (arith, last.0, length-append w (Some a ∷ [])),
  old_place w (Some a) k last.0 ∙ last.1,
  λ j above below waits.
      elim (cases_lt j (length w)) [
        | inl l ↦ last.2 j above l (sym (old_place w (Some a) j l) ∙ waits)
        | inr g ↦
            let here : j ≡ length w = omega (arith, below, length-append w (Some a ∷ [])) in
            let same : Some x ≡ Some a = sym waits ∙ new_place w (Some a) j here in other (cc same)
      ],
)

-- what stands after a future that isn't the last of the new one's actor
above_grows : (w : List (Option ℕ)) (k a x : ℕ) (o f : Option ℕ) → found_at w k ≡ Some x → IsLastBelow w a (length w) o → o ≢ Some k → IsFirstAbove w x k f →
    IsFirstAbove (w ++ Some a ∷ []) x k f
above_grows w k a x o None here last other first = λ j above waits.
    elim (cases_order j (length w)) [
      | inl e ↦
          let same : Some x ≡ Some a = sym waits ∙ new_place w (Some a) j e in let actor : x ≡ a = cc same in
          other (last_where_none_after w k a o (here ∙ same) (subst (λ y. IsFirstAbove w y k None) actor first) last)
      | inr apart ↦ elim apart [
        | inl l ↦ first j above (sym (old_place w (Some a) j l) ∙ waits)
        | inr g ↦ let none : found_at (w ++ Some a ∷ []) j ≡ None = no_place w (Some a) j g in cc (none, waits)
      ]
    ]
above_grows w k a x o (Some f) here last other first =
    let below : f < length w = within w f x first.1 in
    (first.0, old_place w (Some a) f below ∙ first.1, λ j l r waits. first.2 j l r (sym (old_place w (Some a) j (omega (arith, r, below))) ∙ waits))

pushed_before : (w before : List (Option ℕ)) {after : List (Option ℕ)} (last : List (Option ℕ)) (a : ℕ) (o : Option ℕ) → IsChained w before after last →
    length before ≡ length w → a ≤ 8 → o ≡ found_at last a → (j x : ℕ) → found_at (w ++ Some a ∷ []) j ≡ Some x →
    IsLastBelow (w ++ Some a ∷ []) x j (found_at (before ++ o ∷ []) j)
pushed_before w before last a o fine as_many valid o_is j x waits =
    let w2 = w ++ Some a ∷ [] in
    elim (cases_order j (length w)) [
      | inl e ↦
          let same : Some a ≡ Some x = sym (new_place w (Some a) j e) ∙ waits in let actor : a ≡ x = cc same in
          let reached : found_at (before ++ o ∷ []) j ≡ o = new_place before o j (e ∙ sym as_many) in
          let last_one : IsLastBelow w2 a j o = below_grows w (Some a) o a j (omega (arith, e))
          (subst (λ n. IsLastBelow w a n o) (sym e) (subst (IsLastBelow w a (length w)) (sym o_is) (fine.ends a valid))) in
          subst (IsLastBelow w2 x j) (sym reached) (subst (λ y. IsLastBelow w2 y j o) actor last_one)
      | inr apart ↦ elim apart [
        | inl l ↦
            let reached : found_at (before ++ o ∷ []) j ≡ found_at before j = old_place before o j (omega (arith, l, as_many)) in
            subst (IsLastBelow w2 x j) (sym reached)
            (below_grows w (Some a) (found_at before j) x j (omega (arith, l)) (fine.befores j x (sym (old_place w (Some a) j l) ∙ waits)))
        | inr g ↦ let none : found_at w2 j ≡ None = no_place w (Some a) j g in absurd (cc (none, waits))
      ]
    ]

pushed_after : (w : List (Option ℕ)) {before : List (Option ℕ)} (after last : List (Option ℕ)) (a : ℕ) (o : Option ℕ) → IsChained w before after last →
    length after ≡ length w → a ≤ 8 → o ≡ found_at last a → (j x : ℕ) → found_at (w ++ Some a ∷ []) j ≡ Some x →
    IsFirstAbove (w ++ Some a ∷ []) x j (found_at (with_found after o (Some (length w)) ++ None ∷ []) j)
pushed_after w after last a o fine as_many valid o_is j x waits =
    let w2 = w ++ Some a ∷ [] in let after2 = with_found after o (Some (length w)) in
    let as_many2 : length after2 ≡ length w = length-with_found after o (Some (length w)) ∙ as_many in
    let last_one : IsLastBelow w a (length w) o = subst (IsLastBelow w a (length w)) (sym o_is) (fine.ends a valid) in
    elim (cases_order j (length w)) [
      | inl e ↦
          subst (IsFirstAbove w2 x j) (sym (new_place after2 None j (e ∙ sym as_many2)))
          (λ i above found. let none : found_at w2 i ≡ None = no_place w (Some a) i (omega (arith, e, above)) in cc (none, found))
      | inr apart ↦ elim apart [
        | inl l ↦
            let waited : found_at w j ≡ Some x = sym (old_place w (Some a) j l) ∙ waits in
            let reached : found_at (after2 ++ None ∷ []) j ≡ found_at after2 j = old_place after2 None j (omega (arith, l, as_many2)) in
            subst (IsFirstAbove w2 x j) (sym reached)
            (elim (cases_found o j) [
              | inl hit ↦
                  let at_j : IsLastBelow w a (length w) (Some j) = subst (IsLastBelow w a (length w)) hit last_one in
                  let same : Some a ≡ Some x = sym at_j.1 ∙ waited in let actor : a ≡ x = cc same in
                  subst (IsFirstAbove w2 x j) (sym (found_hit after o (Some (length w)) j hit (omega (arith, l, as_many)))) (
                    l,
                    new_place w (Some a) (length w) refl ∙ same,
                    λ i above below found. at_j.2 i above below (sym (old_place w (Some a) i below) ∙ found ∙ sym same),
                  )
              | inr miss ↦
                  subst (IsFirstAbove w2 x j) (sym (found_miss after o (Some (length w)) j miss))
                  (above_grows w j a x o (found_at after j) waited last_one miss (fine.afters j x waited))
            ])
        | inr g ↦ let none : found_at w2 j ≡ None = no_place w (Some a) j g in absurd (cc (none, waits))
      ]
    ]

-- a new future enters as the last one of its actor
pub pushed : (w before after last : List (Option ℕ)) (a : ℕ) (o : Option ℕ) → IsChained w before after last → length before ≡ length w →
    length after ≡ length w → a < length last → a ≤ 8 → o ≡ found_at last a →
    IsChained (w ++ Some a ∷ []) (before ++ o ∷ []) (with_found after o (Some (length w)) ++ None ∷ []) (slice_set last a (Some (length w)))
pushed w before after last a o fine as_many as_many2 listed valid o_is =
    let w2 = w ++ Some a ∷ [] in
    record {
      ends = λ x valid_x. elim (cases_order x a) [
        | inl e ↦
            subst (λ y. IsLastBelow w2 y (length w2) (found_at (slice_set last a (Some (length w))) y)) (sym e)
            (subst (IsLastBelow w2 a (length w2)) (sym (get_or-set_same last a (Some (length w)) None listed)) (
              omega (arith, length-append w (Some a ∷ [])),
              new_place w (Some a) (length w) refl,
              λ j l r. absurd (omega (arith, l, r, length-append w (Some a ∷ []))),
            ))
        | inr apart ↦
            subst (IsLastBelow w2 x (length w2)) (sym (get_or-set_other last a x (Some (length w)) None (apart_from apart)))
            (other_grows w (found_at last x) a x (apart_from apart) (fine.ends x valid_x))
      ];
      befores = pushed_before w before last a o fine as_many valid o_is;
      afters = pushed_after w after last a o fine as_many2 valid o_is;
    }
