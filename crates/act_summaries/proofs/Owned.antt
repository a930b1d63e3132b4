-- The members of a list that are of one name.
use Rattle.act_summaries.proofs.Common.{◌≡◌, ◌≢◌, ℕ, zero, suc, ◌≤◌, ◌==◌, Bool, true, false, cond, List, [], ◌∷◌, ◌++◌, refl, sym, ap, ◌∙◌, subst, arith}
use Rattle.act_summaries.proofs.Common.{filter, bytes_eq, AllByRecursion, flat_map, bytes_decides, append-nil, filter-append, flat_map-append, eqb-true, eq-eqb}
use Rattle.act_summaries.proofs.Common.{false_from_ne_true, one_to}

differs_so : (xs ys : List ℕ) → xs ≢ ys → bytes_eq xs ys ≡ false
differs_so xs ys ne = false_from_ne_true (bytes_eq xs ys) (λ e. ne ((bytes_decides xs ys).0 e))

-- each member has a name
module _ {A : Type 0} (owner_of : A → List ℕ) where
  -- whether the name is that of an item's owner
  abbrev pub belongs : List ℕ → A → Bool
  belongs name x = bytes_eq (owner_of x) name

  -- each of these is of this name
  abbrev pub AreOwned : List ℕ → List A → Type 0
  AreOwned name members = AllByRecursion (λ x. owner_of x ≡ name) members

  all_of : (name : List ℕ) (members : List A) → AreOwned name members → filter (belongs name) members ≡ members
  all_of name [] own = refl
  all_of name (x ∷ members) own =
      ap (λ b. cond b (x ∷ filter (belongs name) members) (filter (belongs name) members)) ((bytes_decides (owner_of x) name).1 own.0)
      ∙ ap (λ l. x ∷ l) (all_of name members own.1)

  none_of : (name other : List ℕ) (members : List A) → AreOwned other members → other ≢ name → filter (belongs name) members ≡ []
  none_of name other [] own ne = refl
  none_of name other (x ∷ members) own ne =
      ap (λ b. cond b (x ∷ filter (belongs name) members) (filter (belongs name) members))
      (differs_so (owner_of x) name (λ same. ne (sym own.0 ∙ same)))
      ∙ none_of name other members own.1 ne

  module _ (named : ℕ → List ℕ) (members : ℕ → List A) (own : (n : ℕ) → AreOwned (named n) (members n)) where
    -- no line of others
    pub others : (name : List ℕ) (n : ℕ) → ((k : ℕ) → k ≤ n → named k ≢ name) → filter (belongs name) (flat_map members (one_to n)) ≡ []
    others name zero ne = refl
    others name (suc n) ne =
        ap (filter (belongs name)) (flat_map-append members (one_to n) (suc n ∷ []))
        ∙ filter-append (belongs name) (flat_map members (one_to n)) (members (suc n) ++ [])
        ∙ (λ i. others name n (λ k few. ne k (omega (arith, few))) i ++ (ap (filter (belongs name)) (append-nil (members (suc n))) ∙ none_of name
        (named (suc n)) (members (suc n)) (own (suc n)) (ne (suc n) (omega arith))) i)

    module _ (differ : (m n : ℕ) → m ≤ 16 → n ≤ 16 → named m ≡ named n → m ≡ n) where
      -- all lines of one
      pub one_of : (m n : ℕ) → 1 ≤ m → m ≤ n → n ≤ 16 → filter (belongs (named m)) (flat_map members (one_to n)) ≡ members m
      one_of m zero some few small = absurd (omega (arith, some, few))
      one_of m (suc n) some few small =
          ap (filter (belongs (named m))) (flat_map-append members (one_to n) (suc n ∷ []))
          ∙ filter-append (belongs (named m)) (flat_map members (one_to n)) (members (suc n) ++ [])
          ∙ ap (λ l. filter (belongs (named m)) (flat_map members (one_to n)) ++ filter (belongs (named m)) l) (append-nil (members (suc n)))
          ∙ go (m == suc n) refl (λ below. one_of m n some below (omega (arith, small)))
        where
          go : (b : Bool) → (m == suc n) ≡ b → (m ≤ n → filter (belongs (named m)) (flat_map members (one_to n)) ≡ members m) →
              filter (belongs (named m)) (flat_map members (one_to n)) ++ filter (belongs (named m)) (members (suc n)) ≡ members m
          go true e rest =
              let same : m ≡ suc n = eqb-true m (suc n) e in
              let mine : AreOwned (named m) (members (suc n)) = subst (λ k. AreOwned (named k) (members (suc n))) (sym same) (own (suc n)) in
              (λ i. others (named m) n (λ k below is. let bad = differ k m (omega (arith, below, small)) (omega (arith, few, small)) is in
              absurd (omega (arith, bad, same, below))) i ++ all_of (named m) (members (suc n)) mine i)
              ∙ ap members (sym same)
          go false e rest =
              let ne : m ≢ suc n = λ same. let bad : true ≡ false = sym (eq-eqb m (suc n) same) ∙ e in cc in
              let below : m ≤ n = omega (arith, ne, few) in
              (λ i. rest below i ++ none_of (named m) (named (suc n)) (members (suc n)) (own (suc n))
              (λ is. ne (differ m (suc n) (omega (arith, few, small)) small (sym is))) i)
              ∙ append-nil (members m)
