-- What the slots of a slab tell of the list of its values.
use Rattle.act_inbox.proofs.Common.{◌≡◌, ℕ, zero, suc, List, [], ◌∷◌, length, Option, Some, None, Bool, true, false, cond, refl, ap, subst}
use Rattle.act_inbox.proofs.Common.{get_or, find, filter_map, All, is_some, ◌==◌, sym, ◌∙◌, eq-eqb, count_by, Decides, eqb-true}
use Rattle.act_inbox.proofs.Common.{nil_from_length, length-values, All-nil, All-cons, All-head, All-tail}

module _ {X : Type 0} where
  -- the values of the slots, in their order
  abbrev pub filled : List (Option X) → List X
  filled slots = filter_map (λ slot. slot) slots

  head_fits : (p : X → Bool) (b : Bool) (x y : X) (rest : Option X) → p y ≡ b → (b ≡ true → y ≡ x) → (b ≡ false → rest ≡ Some x) → cond b (Some y) rest ≡ Some x
  head_fits p true x y rest is here there = ap Some (here refl)
  head_fits p false x y rest is here there = there refl

  -- the one value that passes is found
  pub find-slot : (p : X → Bool) (slots : List (Option X)) (key : ℕ) (x : X) → get_or slots key None ≡ Some x → p x ≡ true →
      ((other : ℕ) (y : X) → get_or slots other None ≡ Some y → p y ≡ true → y ≡ x) → find p (filled slots) ≡ Some x
  find-slot p [] key x at passes only = absurd (cc)
  find-slot p (None ∷ rest) zero x at passes only = absurd (cc)
  find-slot p (None ∷ rest) (suc key) x at passes only = find-slot p rest key x at passes (λ other y. only (suc other) y)
  find-slot p (Some y ∷ rest) zero x at passes only = head_fits p (p y) x y (find p (filled rest)) refl (λ yes. only zero y refl yes) (λ no. absurd (cc))
  find-slot p (Some y ∷ rest) (suc key) x at passes only =
      head_fits p (p y) x y (find p (filled rest)) refl (λ yes. only zero y refl yes) (λ no. find-slot p rest key x at passes (λ other z. only (suc other) z))

  -- no value passes
  pub find-no_slot : (p : X → Bool) (slots : List (Option X)) → ((key : ℕ) (x : X) → get_or slots key None ≡ Some x → p x ≡ false) →
      find p (filled slots) ≡ None
  find-no_slot p [] fails = refl
  find-no_slot p (None ∷ rest) fails = find-no_slot p rest (λ key x. fails (suc key) x)
  find-no_slot p (Some y ∷ rest) fails = rw (fails zero y refl) (find-no_slot p rest (λ key x. fails (suc key) x))

  -- what holds at each slot holds of each value, and back
  pub All-filled : (P : X → Type 0) (slots : List (Option X)) → ((key : ℕ) (x : X) → get_or slots key None ≡ Some x → P x) → All P (filled slots)
  All-filled P [] holds = All-nil P
  All-filled P (None ∷ rest) holds = All-filled P rest (λ key x. holds (suc key) x)
  All-filled P (Some y ∷ rest) holds = All-cons P y (filled rest) (holds zero y refl) (All-filled P rest (λ key x. holds (suc key) x))

  pub slot-All : (P : X → Type 0) (slots : List (Option X)) → All P (filled slots) → (key : ℕ) (x : X) → get_or slots key None ≡ Some x → P x
  slot-All P [] all key x at = absurd (cc)
  slot-All P (None ∷ rest) all zero x at = absurd (cc)
  slot-All P (None ∷ rest) all (suc key) x at = slot-All P rest all key x at
  slot-All P (Some y ∷ rest) all zero x at = let same : y ≡ x = cc in subst P same (All-head P y (filled rest) all)
  slot-All P (Some y ∷ rest) all (suc key) x at = slot-All P rest (All-tail P y (filled rest) all) key x at

  -- where no slot counts, there are no values
  pub none_decides : (slots : List (Option X)) {empty : Bool} → empty ≡ (count_by is_some slots == 0) → Decides empty (filled slots ≡ [])
  none_decides slots is = (
    λ yes. nil_from_length (filled slots) (sym (length-values slots) ∙ eqb-true _ _ (sym is ∙ yes)),
    λ none. is ∙ eq-eqb _ _ (length-values slots ∙ ap (λ values. length values) none),
  )
