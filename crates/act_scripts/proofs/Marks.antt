-- A word without its first or its last byte.
use Rattle.act_scripts.proofs.Common.{◌≡◌, ◌≢◌, ℕ, ◌-◌, ◌++◌, List, [], ◌∷◌, length, slice_index, take, Ok, Err, inl, inr, arith, refl, ap, ◌∙◌, nat_tests}
use Rattle.act_scripts.proofs.Common.{eqb_tells, BadLine, marked_at}
use Rattle.act_rules.specs.Words.{closed_at}
use Rattle.act_rules.proofs.Marks.{last_is, closed_some as closed_at_end}

pub marked_some : (bs rest : List ℕ) (mark : ℕ) → bs ≡ mark ∷ rest → marked_at bs mark ≡ Ok rest
marked_some bs rest mark h = rw h (grind (arith, nat_tests))

pub marked_none : (bs : List ℕ) (mark : ℕ) → ((rest : List ℕ) → bs ≢ mark ∷ rest) → marked_at bs mark ≡ Err BadLine
marked_none [] mark h = refl
marked_none (b ∷ bs) mark h = elim (eqb_tells b mark) [
  | inl e ↦ absurd (h bs (ap (λ x. x ∷ bs) e.1))
  | inr e ↦ rw e.0 refl
]

pub closed_some : (bs front : List ℕ) (mark : ℕ) → bs ≡ front ++ mark ∷ [] → closed_at bs mark ≡ Ok front
closed_some bs front mark h = ap (λ bytes. closed_at bytes mark) h ∙ closed_at_end front mark

pub closed_none : (bs : List ℕ) (mark : ℕ) → ((front : List ℕ) → bs ≢ front ++ mark ∷ []) → closed_at bs mark ≡ Err BadLine
unfolding closed_at
closed_none [] mark h = refl
closed_none (b ∷ bs) mark h = elim (eqb_tells (slice_index (b ∷ bs) (length (b ∷ bs) - 1)) mark) [
  | inl e ↦ absurd (h (take (length (b ∷ bs) - 1) (b ∷ bs)) (last_is (b ∷ bs) (omega arith) ∙ ap (λ x. take (length (b ∷ bs) - 1) (b ∷ bs) ++ x ∷ []) e.1))
  | inr e ↦ grind (arith, nat_tests)
]
