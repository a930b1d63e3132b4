-- What each of two lists does to the element of the other at its place, and casts by their actors.
use Rattle.act_executor.proofs.Common.{◌≡◌, ◌≢◌, ℕ, zero, suc, ◌<◌, Bool, true, false, List, [], ◌∷◌, Some, All, length, get_or, refl, ap, sym, ◌∙◌, subst}
use Rattle.act_executor.proofs.Common.{arith, inl, inr, ◌==◌, ◌&&◌, slice_get, list_any, eq-eqb, ne_eqb, or-false, eqb_tells, All-tail, slice_get-get_or}
use Rattle.act_executor.proofs.Common.{Option, None, is_some, slice_get_within, get_or_from_slice_get, Each, ActorsDiffer, Cast}

-- an option that holds something
pub some_is : {A : Type 0} (o : Option A) → is_some o ≡ true → (x : A) × (o ≡ Some x)
some_is None is = absurd (cc)
some_is (Some x) is = (x, refl)

-- what holds of the elements at each place
pub each_at : {T X : Type 0} (done : T → X → Type 0) (tasks : List T) (results : List X) → length results ≡ length tasks
    → ((i : ℕ) (t : T) (x : X) → slice_get tasks i ≡ Some t → slice_get results i ≡ Some x → done t x) → Each done tasks results
each_at done tasks results long each = (
  long,
  λ i t x below.
      let short : i < length results = omega (arith, long) in
      each i (get_or tasks i t) (get_or results i x) (slice_get-get_or tasks i t below) (slice_get-get_or results i x short),
)

-- two lists of which each is used up by one
pub each_pop : {T X : Type 0} (D : T → X → Type 0) (us ts : List T) (ys xs : List X) (t : T) (x : X) → us ≡ t ∷ ts → ys ≡ x ∷ xs → Each D us ys →
    D t x × Each D ts xs
each_pop D us ts ys xs t x is are each =
    let At : List _ × List _ → Type 0 = λ p. Each D p.0 p.1 in
    let whole : Each D (t ∷ ts) (x ∷ xs) = subst At (λ i. (is i, are i)) each in
    (whole.1 0 t x (omega arith), (omega (arith, whole.0), λ k a b lt. whole.1 (suc k) a b (omega arith)))

-- ---- casts

module _ {K : Type 0} (p : Cast K → Bool) where
  nowhere : (a : ℕ) (casts : List (Cast K)) → All (λ cast. a ≢ cast.actor) casts → list_any (λ cast. (cast.actor == a) && p cast) casts ≡ false
  nowhere a [] all = refl
  nowhere a (cast ∷ casts) all = elim (eqb_tells cast.actor a) [
    | inl t ↦ absurd (all 0 cast (omega arith) (sym t.1))
    | inr f ↦ rw f.0 (nowhere a casts (All-tail (λ (other : Cast K). a ≢ other.actor) cast casts all))
  ]

  -- an actor has one cast
  pub only_cast : (casts : List (Cast K)) (j : ℕ) (cast : Cast K) → ActorsDiffer casts → slice_get casts j ≡ Some cast →
      list_any (λ other. (other.actor == cast.actor) && p other) casts ≡ p cast
  only_cast [] j cast differ at = cc
  only_cast (first ∷ casts) zero cast differ at =
      let is : first ≡ cast = cc in
      let later : All (λ (other : Cast K). cast.actor ≢ other.actor) casts =
      λ k d lt same. differ 0 (suc k) d (omega arith) (omega arith) (ap (λ (c : Cast K). c.actor) is ∙ same) in
      let none = nowhere cast.actor casts later in
      let e : (first.actor == cast.actor) ≡ true = eq-eqb first.actor cast.actor (ap (λ (c : Cast K). c.actor) is) in
      rw e (rw none (or-false (p first) ∙ ap p is))
  only_cast (first ∷ casts) (suc j) cast differ at =
      let rest : ActorsDiffer casts = λ i k d below within. differ (suc i) (suc k) d (omega arith) (omega arith) in
      let apart : first.actor ≢ cast.actor = λ same. differ 0 (suc j) cast (omega arith) (let lt = slice_get_within casts j cast at in omega arith)
      (same ∙ ap (λ (c : Cast K). c.actor) (sym (get_or_from_slice_get casts j cast cast at))) in
      let e : (first.actor == cast.actor) ≡ false = ne_eqb first.actor cast.actor apart in rw e (only_cast casts j cast rest at)
