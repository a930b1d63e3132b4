-- Where no line has a mark, the lines are told as they stand.
use Rattle.act_summaries.proofs.Common.{◌≡◌, ℕ, true, false, List, [], ◌∷◌, ◌++◌, map, inl, inr, refl, sym, ap, subst, ◌∙◌, All, All-head, All-tail, flat_map}
use Rattle.act_summaries.proofs.Common.{told_line, is_open, IsToldAs, AreToldAsTheyStand}

-- the line of a pair, as it is told
abbrev pub told_of : List ℕ × List ℕ → List ℕ
told_of pair = told_line pair.1

-- where no line has a mark
plain : (pairs : List (List ℕ × List ℕ)) → All (λ line. is_open line ≡ false) (map (λ (pair : List ℕ × List ℕ). pair.0) pairs) → All
    (λ (pair : List ℕ × List ℕ). IsToldAs pair.0 pair.1) pairs → flat_map told_of pairs ≡ flat_map told_line (map (λ (pair : List ℕ × List ℕ). pair.0) pairs)
plain [] closed told = refl
plain (pair ∷ more) closed told =
    (λ i. told_line (same (All-head (λ (pair : List ℕ × List ℕ). IsToldAs pair.0 pair.1) pair more told) i) ++ plain more (All-tail (λ line. is_open line ≡
    false) pair.0 (map (λ (pair : List ℕ × List ℕ). pair.0) more) closed) (All-tail (λ (pair : List ℕ × List ℕ). IsToldAs pair.0 pair.1) pair more told) i)
  where
    same : IsToldAs pair.0 pair.1 → pair.1 ≡ pair.0
    same (inl is) = is
    same (inr filled) = absurd (let e : true ≡ false = sym filled.marked ∙ All-head (λ line. is_open line ≡ false) pair.0
        (map (λ (pair : List ℕ × List ℕ). pair.0) more) closed in cc)

pub as_they_stand : AreToldAsTheyStand
as_they_stand bytes text closed make =
    make.whole
    ∙ plain make.pairs (subst (All (λ line. is_open line ≡ false)) (sym make.given) closed) make.told
    ∙ ap (flat_map told_line) make.given
